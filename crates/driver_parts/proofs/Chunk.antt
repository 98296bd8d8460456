-- operands: what holds at its loop's head, and each need there. Assumes nothing.
use Rattle.std.specs.Prelude.{Option as Perhaps, Some, None}
use mathlib.Core.Path.{◌≡◌, refl, sym, ◌∙◌, ap, subst}
use mathlib.Core.List.{List}
use mathlib.Core.Bool.{Bool, true, false, ◌||◌, not, or-false}
use mathlib.Core.Logic.{⊎_elim}
use mathlib.Core.Option.{Option, some}
use Prim.Native.Nat.{ℕ, suc, ◌+◌, ◌-◌, ◌*◌, ◌<◌, ◌≤◌}
use native.Mathlib.Nat.{eq-or-lt_of_le}
use native.Mathlib.Omega.{arith}
use lib.ListN.{length, get_or, set, length-set}
use lib.Seq.{get_or-set_same, get_or-set_other}
use Rattle.refusals.specs.declared.Refusal.{Refusal}
use Rattle.refusals.specs.declared.Refusal.TheVariants.{TooDeep}
use Rattle.meaning.specs.Tree.{Tree, atom, pair, equal_to}
use Rattle.meaning.specs.Limits.{pass_limit, height_at}
use Rattle.meaning.specs.Meter.{Out, done, stop, Spent}
use Rattle.meaning.specs.Rules.{non_constant}
use Rattle.meaning.specs.Driver.{optimize_sexp}
use Rattle.meaning.proofs.SameLaws.{equal_to_same}
use Rattle.meaning.proofs.CostDriver.{driver_fits}
use Rattle.meaning.proofs.Operands.{join, ending, as_wanted}
use Rattle.meaning.proofs.OperandsSteps.{work_end, work_on, work_stops}
use Rattle.meaning.proofs.OperandsOutcomes.{works_atom, too_deep}
use Rattle.store.specs.declared.Cell.{Cell}
use Rattle.store.specs.declared.Cell.TheVariants.{Pair, Atom}
use Rattle.store.specs.Cells.{cell_at, bytes_at, Room, Starts}
use Rattle.store.specs.Nodes.{tree_at}
use Rattle.store.specs.Store.{Ready}
use Rattle.store.specs.Makers.{Grown}
use Rattle.store.proofs.Ready as ready
use Rattle.store.proofs.Ready.{small, falls_right, ready_left, ready_right, look_pair, look_atom, grown_none, grown_both, grown_ready, grown_tree}
use Rattle.sexp.specs.Lists.{Items}
use Rattle.patterns.specs.declared.Patterns.{Patterns}
use Rattle.run_state.specs.declared.Outcome.{Outcome}
use Rattle.run_state.specs.declared.Outcome.TheVariants.{Same, Changed, Stopped}
use Rattle.run_state.specs.declared.Work.{Work}
use Rattle.run_state.specs.Work.{spent_of, with_last, SameAs, ChangedTo, Did}
use Rattle.run_state.proofs.Does.{says_same, says_changed, says_stopped}
use Rattle.driver_parts.specs.declared.Element.{Element}
use Rattle.driver_parts.specs.Turns.{again, Fine}
use Rattle.driver_parts.specs.Walk.{test_of, walk, made_list, sets_flag, wrap, MadeAt, Walked, Puttable, PutBefore, Stands, Became}
use Rattle.driver_parts.proofs.Saying.{walked_none, walked_made, walked_stopped, walk_none, walk_stopped, walk_stops, walks_on}
use Rattle.driver_parts.proofs.Wraps.{wrap_none, wrap_stop, wrap_kept, wrap_put}
use Rattle.driver_parts.proofs.Kept.{fine_kept, fine_room, fine_fits}

-- ---- the flag

made_is : (count seen : Bool) → made_list count seen ≡ as_wanted (not count) seen
unfolding made_list as_wanted
made_is true seen = refl
made_is false seen = refl

-- an element that stayed
stayed : (count : Bool) (t : Tree) → sets_flag count false t ≡ test_of count t t
unfolding sets_flag
stayed true t = refl
stayed false t = sym (ap not (equal_to_same t))

-- an atom never sets it
atom_stays : (count : Bool) (b : List ℕ) → test_of count (atom b) (atom b) ≡ false
unfolding non_constant
atom_stays true b = refl
atom_stays false b = ap not (equal_to_same (atom b))

-- an element that was changed
changed : (count : Bool) (t u : Tree) → equal_to t u ≡ false → sets_flag count true u ≡ test_of count t u
unfolding sets_flag
changed true t u e = refl
changed false t u e = sym (ap not e)

-- ---- one step

step_end : (count : Bool) (nest : ℕ) (seen : Bool) (b : List ℕ) (s : Spent) → done (ending (made_list count seen) (atom b)) s ≡ walk count (again nest) seen (atom b) s
unfolding walk
step_end count nest seen b s = ap (λ (z : Bool). done (ending z (atom b)) s) (made_is count seen) ∙ sym (work_end (test_of count) (not count) (again nest) seen b s)

step_on : (count : Bool) (nest : ℕ) (seen : Bool) (h t u : Tree) (s x : Spent) → again nest h s ≡ done u x
    → walk count (again nest) seen (pair h t) s ≡ join u (walk count (again nest) (seen || test_of count h u) t x)
unfolding walk
step_on count nest seen h t u s x e = work_on (test_of count) (not count) (again nest) seen h t u s x e

step_stops : (count : Bool) (nest : ℕ) (seen : Bool) (h t : Tree) (s x : Spent) (n : Refusal) → again nest h s ≡ stop n x → walk count (again nest) seen (pair h t) s ≡ stop n x
unfolding walk
step_stops count nest seen h t s x n e = work_stops (test_of count) (not count) (again nest) seen h t s x n e

again_atom : (nest : ℕ) (b : List ℕ) (s : Spent) → nest < 64 → again nest (atom b) s ≡ done (atom b) s
again_atom nest b s l = let e : height_at (nest + 1) ≡ suc (63 - nest) = omega arith in ap (λ (d : ℕ). optimize_sexp d (atom b) s) e ∙ works_atom (63 - nest) b s

again_deep : (nest : ℕ) (t : Tree) (s : Spent) → 64 ≤ nest → again nest t s ≡ stop TooDeep s
again_deep nest t s l = let e : height_at (nest + 1) ≡ 0 = omega arith in ap (λ (d : ℕ). optimize_sexp d t s) e ∙ too_deep t s

-- ---- the results

pub items_kept : (f s s' : List ℕ) (w w' : Work) (got : List ℕ) (k : ℕ) → Items s w.ch got k → Grown f s s' w.ch w'.ch → Items s' w'.ch got k
items_kept f s s' w w' got k i g = record {
  within = i.within;
  nodes = λ j l. g.nodes (get_or got j 0) (i.nodes j l) (omega (arith, i.old j l));
  old = λ j l. omega (arith, i.old j l, g.ends);
}

items_put : (s : List ℕ) (w : Work) (got : List ℕ) (k x : ℕ) → Items s w.ch got k → Starts s x → x < w.ch.end → k < length got → Items s w.ch (set got k x) (k + 1)
items_put s w got k x i n o l = record {
  within = rw (length-set got k x) (omega arith);
  nodes = λ j h. put (λ y. Starts s y) n (λ j h. i.nodes j h) j h;
  old = λ j h. put (λ y. y < w.ch.end) o (λ j h. i.old j h) j h;
}
  where
    put : (P : ℕ → Type 0) → P x → ((j : ℕ) → j < k → P (get_or got j 0)) → (j : ℕ) → j < k + 1 → P (get_or (set got k x) j 0)
    put P a b j h =
        let z : j ≤ k = omega arith in
        ⊎_elim
        (λ e. subst P (sym (ap (λ (m : ℕ). get_or (set got k x) m 0) e ∙ get_or-set_same got k x 0 l)) a)
        (λ m. subst P (sym (get_or-set_other got k j x 0 (omega arith))) (b j m))
        (eq-or-lt_of_le z)

-- ---- the invariant: the first k elements are worked, and their results before the work that is left are the work of the whole list

pub record Chunk (f : List ℕ) (p : Patterns) (nest list : ℕ) (count flag : Bool) (room₀ : List ℕ) (w₀ : Work) (room : List ℕ) (w : Work) (q : ℕ) (seen : Bool) (got : List ℕ) (k : ℕ) : Type 0 where
  pub fine : Fine f room w p q
  pub nests : nest < 65
  pub grown : Grown f room₀ room w₀.ch w.ch
  pub few : k ≤ 48
  pub size : length got ≡ 48
  pub items : Items room w.ch got k
  pub less : q + k ≤ list
  pub rest : wrap f room got k (walk count (again nest) seen (tree_at f room q) (spent_of w)) ≡ walk count (again nest) flag (tree_at f room₀ list) (spent_of w₀)

pub chunk_starts : (f : List ℕ) (p : Patterns) (nest list : ℕ) (count flag : Bool) (room : List ℕ) (w : Work) (got : List ℕ) → Fine f room w p list → nest < 65 → length got ≡ 48 → Chunk f p nest list count flag room w room w list flag got 0
unfolding wrap
chunk_starts f p nest list count flag room w got h n l = record {
  fine = h;
  nests = n;
  grown = grown_none f room w.ch h.ready.held;
  few = omega arith;
  size = l;
  items = record { within = omega arith; nodes = λ j a. absurd (omega arith); old = λ j a. absurd (omega arith) };
  less = omega arith;
  rest = refl;
}

module _ (f : List ℕ) (p : Patterns) (nest list : ℕ) (count flag : Bool) (room₀ : List ℕ) (w₀ : Work) (room : List ℕ) (w : Work) (q : ℕ) (seen : Bool) (got : List ℕ) (k : ℕ)
    (i : Chunk f p nest list count flag room₀ w₀ room w q seen got k) where
  abbrev total : Out Spent (Option Tree)
  total = walk count (again nest) flag (tree_at f room₀ list) (spent_of w₀)

  pub chunk_room : Room room q
  chunk_room = fine_room f room w p q i.fine

  pub chunk_ready : Ready f room w.ch q
  chunk_ready = i.fine.ready

  pub chunk_fine : Fine f room w p q
  chunk_fine = i.fine

  pub chunk_items : Items room w.ch got k
  chunk_items = i.items

  pub chunk_nest : nest < 65
  chunk_nest = i.nests

  pub chunk_deeper : nest + 1 < 66
  chunk_deeper = omega (arith, i.nests)

  pub chunk_long : length room ≡ length room₀
  chunk_long = i.grown.long

  pub chunk_len : (r₁ : List ℕ) → length r₁ ≡ length room → length r₁ ≡ length room₀
  chunk_len r₁ e = e ∙ i.grown.long

  pub chunk_len_2 : (r₁ r₂ : List ℕ) → length r₂ ≡ length r₁ → length r₁ ≡ length room → length r₂ ≡ length room₀
  chunk_len_2 r₁ r₂ a b = a ∙ b ∙ i.grown.long

  -- the measure falls
  pub chunk_down : (t : ℕ) → 48 ≤ k → (66 - nest) * 70_000 + list ≡ t → (66 - nest) * 70_000 + q < t
  chunk_down t h e = omega (arith, i.less)

  pub chunk_deep : (t : ℕ) → (66 - nest) * 70_000 + list ≡ t → (66 - (nest + 1)) * 70_000 + 65_545 < t
  chunk_deep t e = omega (arith, i.nests)

  -- the list's end
  module _ (a : Cell) (ea : a ≡ cell_at room q) where
    pub chunk_end : (make : Bool) (r₁ : List ℕ) (v : Work) → Walked f room r₁ w (wrap f room got k (done (ending make (tree_at f room q)) (spent_of w))) v → make ≡ made_list count seen → a ≡ Atom
        → Walked f room₀ r₁ w₀ (walk count (again nest) flag (tree_at f room₀ list) (spent_of w₀)) v
    chunk_end make r₁ v d em pa =
        let e : tree_at f room q ≡ atom (bytes_at f room q) = look_atom f room q a ea pa in
        let x : done (ending make (tree_at f room q)) (spent_of w) ≡ walk count (again nest) seen (tree_at f room q) (spent_of w) =
        rw (em, e) (step_end count nest seen (bytes_at f room q) (spent_of w)) in
        walks_on f room₀ room r₁ w₀ w v _ _ i.grown d (ap (wrap f room got k) x ∙ i.rest)

  -- the call for what follows the first 48
  module _ (r₁ : List ℕ) (w₁ : Work) (d : Walked f room r₁ w (walk count (again nest) seen (tree_at f room q) (spent_of w)) w₁) where
    over : (o : Out Spent (Option Tree)) → walk count (again nest) seen (tree_at f room q) (spent_of w) ≡ o → total ≡ wrap f room got k o
    over o e = sym i.rest ∙ ap (wrap f room got k) e

    more_none : w₁.last ≡ Same → Walked f room₀ r₁ w₀ (walk count (again nest) flag (tree_at f room₀ list) (spent_of w₀)) w₁
    more_none e =
        let u = walked_none f room r₁ w w₁ _ d e in
        walk_none f room₀ r₁ w₀ w₁ _ e (record { grown = grown_both i.grown u.grown; gives = over _ u.gives ∙ wrap_none f room got k (spent_of w₁) })

    more_stop : (n : Refusal) → w₁.last ≡ Stopped n → Walked f room₀ r₁ w₀ (walk count (again nest) flag (tree_at f room₀ list) (spent_of w₀)) w₁
    more_stop n e =
        let u = walked_stopped f room r₁ w w₁ _ n d e in
        walk_stopped f room₀ r₁ w₀ w₁ _ n u.after e (over _ u.stops ∙ wrap_stop f room got k n u.after)

    module _ (m : ℕ) (e : w₁.last ≡ Changed m) where
      abbrev made : MadeAt f room r₁ w w₁ m (walk count (again nest) seen (tree_at f room q) (spent_of w))
      made = walked_made f room r₁ w w₁ _ m d e

      more_both : Ready f r₁ w₁.ch m × Items r₁ w₁.ch got k
      more_both = (made.ready, items_kept f room r₁ w w₁ got k i.items made.grown)

      more_built : (r₂ : List ℕ) (v : Work) → Walked f r₁ r₂ w₁ (wrap f r₁ got k (done (ending true (tree_at f r₁ m)) (spent_of w₁))) v
          → Walked f room₀ r₂ w₀ (walk count (again nest) flag (tree_at f room₀ list) (spent_of w₀)) v
      unfolding ending
      more_built r₂ v g =
          walks_on f room₀ r₁ r₂ w₀ w₁ v _ _ (grown_both i.grown made.grown) g
          (wrap_kept f room got r₁ k (λ j l. made.grown.trees (get_or got j 0) (i.items.nodes j l) (i.items.old j l)) (done (some (tree_at f r₁ m)) (spent_of w₁))
          ∙ sym (over _ made.gives))

    pub more_puttable : Puttable f r₁ w₁ got k w₁.last
    unfolding Puttable
    more_puttable = go w₁.last refl
      where
        go : (o : Outcome) → w₁.last ≡ o → Puttable f r₁ w₁ got k o
        go Same e = tt
        go (Changed m) e = more_both m e
        go (Stopped u) e = tt

    pub more_put : (r₂ : List ℕ) (v : Work) → PutBefore f r₁ r₂ w₁ got k v w₁.last → Walked f room₀ r₂ w₀ (walk count (again nest) flag (tree_at f room₀ list) (spent_of w₀)) v
    unfolding PutBefore ending
    more_put r₂ v z = go w₁.last refl z
      where
        go : (o : Outcome) → w₁.last ≡ o → PutBefore f r₁ r₂ w₁ got k v o → Walked f room₀ r₂ w₀ (walk count (again nest) flag (tree_at f room₀ list) (spent_of w₀)) v
        go Same e z = rw (z.work, z.room) (more_none e)
        go (Changed m) e z = more_built m e r₂ v z
        go (Stopped u) e z = rw (z.work, z.room) (more_stop u e)

  -- one element more
  module _ (a : Cell) (ea : a ≡ cell_at room q) (h t : ℕ) (pa : a ≡ Pair h t) where
    pub elem_ready : Ready f room w.ch h
    elem_ready = ready_left f room w.ch q h t a pa ea i.fine.ready

    tail_ready : Ready f room w.ch t
    tail_ready = ready_right f room w.ch q h t a pa ea i.fine.ready

    list_is : tree_at f room q ≡ pair (tree_at f room h) (tree_at f room t)
    list_is = look_pair f room w.ch q h t a pa ea

    pub elem_room : Room room h
    elem_room = ready.room f room w.ch h elem_ready

    pub elem_small : h < 65536
    elem_small = small f room w.ch h elem_ready

    pub elem_fine : Fine f room w p h
    elem_fine = record { ready = elem_ready; patterned = i.fine.patterned; passes = i.fine.passes }

    pub elem_falls : t < q
    elem_falls = falls_right f room w.ch q h t a pa ea

    -- the result x of an element, put in its place
    put : (r₁ : List ℕ) (w₁ : Work) (x : ℕ) (b : Bool) → Grown f room r₁ w.ch w₁.ch → Ready f r₁ w₁.ch x → w₁.passes ≤ pass_limit → k < 48
        → join (tree_at f r₁ x) (walk count (again nest) b (tree_at f room t) (spent_of w₁)) ≡ walk count (again nest) seen (tree_at f room q) (spent_of w)
        → Chunk f p nest list count flag room₀ w₀ r₁ w₁ t b (set got k x) (k + 1)
    unfolding wrap
    put r₁ w₁ x b g rx l lk e =
        let z : k + 1 ≡ suc k = omega arith in
        let lt : t < q = elem_falls in
        let same : get_or (set got k x) k 0 ≡ x = get_or-set_same got k x 0 (omega (arith, i.size)) in
        let e' : join (tree_at f r₁ x) (walk count (again nest) b (tree_at f r₁ t) (spent_of w₁)) ≡ walk count (again nest) seen (tree_at f room q) (spent_of w) =
        ap (λ (y : Tree). join (tree_at f r₁ x) (walk count (again nest) b y (spent_of w₁))) (grown_tree g tail_ready) ∙ e in
        record {
          fine = fine_kept f room r₁ w w₁ p q t i.fine g (grown_ready g tail_ready) l;
          nests = i.nests;
          grown = grown_both i.grown g;
          few = omega arith;
          size = length-set got k x ∙ i.size;
          items = items_put r₁ w₁ got k x (items_kept f room r₁ w w₁ got k i.items g) rx.node rx.old (omega (arith, i.size));
          less = omega (arith, i.less);
          rest =
              rw z
              (ap (λ (n : ℕ). wrap f r₁ (set got k x) k (join (tree_at f r₁ n) (walk count (again nest) b (tree_at f r₁ t) (spent_of w₁)))) same
              ∙ wrap_put f r₁ got k x k (omega arith) _
              ∙ wrap_kept f room got r₁ k (λ j o. g.trees (get_or got j 0) (i.items.nodes j o) (i.items.old j o)) _
              ∙ ap (wrap f room got k) e'
              ∙ i.rest);
        }

    -- the element's work, u from w to w₁
    on : (u : Tree) (x : Spent) (b : Bool) → again nest (tree_at f room h) (spent_of w) ≡ done u x → b ≡ (seen || test_of count (tree_at f room h) u)
        → join u (walk count (again nest) b (tree_at f room t) x) ≡ walk count (again nest) seen (tree_at f room q) (spent_of w)
    on u x b e eb = rw (eb, list_is) (sym (step_on count nest seen (tree_at f room h) (tree_at f room t) u (spent_of w) x e))

    off : (n : Refusal) (x : Spent) → again nest (tree_at f room h) (spent_of w) ≡ stop n x → total ≡ stop n x
    off n x e =
        let z : walk count (again nest) seen (tree_at f room q) (spent_of w) ≡ stop n x = rw list_is (step_stops count nest seen (tree_at f room h) (tree_at f room t) (spent_of w) x n e) in
        sym i.rest ∙ ap (wrap f room got k) z ∙ wrap_stop f room got k n x

    module _ (b : Cell) (eb : b ≡ cell_at room h) (pb : b ≡ Atom) where
      leaf_is : tree_at f room h ≡ atom (bytes_at f room h)
      leaf_is = look_atom f room h b eb pb

      pub atom_deep : (v : Work) → 64 ≤ nest → v ≡ with_last w (Stopped TooDeep) → Walked f room₀ room w₀ (walk count (again nest) flag (tree_at f room₀ list) (spent_of w₀)) v
      atom_deep v hn ev = walk_stops f room₀ room w₀ w v _ TooDeep (spent_of w) (off TooDeep (spent_of w) (again_deep nest (tree_at f room h) (spent_of w) hn)) ev

      pub atom_again : nest < 64 → k < 48 → Chunk f p nest list count flag room₀ w₀ room w t seen (set got k h) (k + 1)
      atom_again hn lk =
          let e : again nest (tree_at f room h) (spent_of w) ≡ done (tree_at f room h) (spent_of w) = rw leaf_is (again_atom nest (bytes_at f room h) (spent_of w) hn) in
          let z : test_of count (tree_at f room h) (tree_at f room h) ≡ false = rw leaf_is (atom_stays count (bytes_at f room h)) in
          put room w h seen (grown_none f room w.ch elem_ready.held) elem_ready i.fine.passes lk
          (on (tree_at f room h) (spent_of w) seen e (sym (or-false seen) ∙ ap (seen ||◌) (sym z)))

    module _ (r₁ : List ℕ) (w₁ : Work) (d : Did f room r₁ w (tree_at f room h) (optimize_sexp (height_at (nest + 1)) (tree_at f room h) (spent_of w)) w₁) where
      elem_stop : (n : Refusal) → w₁.last ≡ Stopped n → Walked f room₀ r₁ w₀ (walk count (again nest) flag (tree_at f room₀ list) (spent_of w₀)) w₁
      elem_stop n e = let u = says_stopped f room r₁ w w₁ _ _ d n e in walk_stopped f room₀ r₁ w₀ w₁ _ n u.after e (off n u.after u.stops)

      fits : (u : Tree) → again nest (tree_at f room h) (spent_of w) ≡ done u (spent_of w₁) → w₁.passes ≤ pass_limit
      fits u e = (driver_fits (height_at (nest + 1)) (tree_at f room h) u (spent_of w) (spent_of w₁) (fine_fits f room w p q i.fine) e).1

      module _ (e : w₁.last ≡ Same) where
        abbrev stay : SameAs f room r₁ w w₁ (tree_at f room h) (optimize_sexp (height_at (nest + 1)) (tree_at f room h) (spent_of w))
        stay = says_same f room r₁ w w₁ _ _ d e

        same_again : (b : Bool) → b ≡ (seen || sets_flag count false (tree_at f r₁ h)) → k < 48 → Chunk f p nest list count flag room₀ w₀ r₁ w₁ t b (set got k h) (k + 1)
        same_again b eb lk =
            let eh : tree_at f r₁ h ≡ tree_at f room h = grown_tree stay.grown elem_ready in
            put r₁ w₁ h b stay.grown (grown_ready stay.grown elem_ready) (fits (tree_at f room h) stay.gives) lk
            (rw eh (on (tree_at f room h) (spent_of w₁) b stay.gives (eb ∙ ap (λ (y : Tree). seen || sets_flag count false y) eh ∙ ap (seen ||◌) (stayed count (tree_at f room h)))))

      module _ (m : ℕ) (e : w₁.last ≡ Changed m) where
        abbrev to : ChangedTo f room r₁ w w₁ (tree_at f room h) m (optimize_sexp (height_at (nest + 1)) (tree_at f room h) (spent_of w))
        to = says_changed f room r₁ w w₁ _ _ d m e

        changed_again : (b : Bool) → b ≡ (seen || sets_flag count true (tree_at f r₁ m)) → k < 48 → Chunk f p nest list count flag room₀ w₀ r₁ w₁ t b (set got k m) (k + 1)
        changed_again b eb lk =
            put r₁ w₁ m b to.grown to.ready (fits (tree_at f r₁ m) to.gives) lk
            (on (tree_at f r₁ m) (spent_of w₁) b to.gives (eb ∙ ap (seen ||◌) (changed count (tree_at f room h) (tree_at f r₁ m) to.differs)))

      pub elem_stands : Stands f r₁ w₁ h w₁.last
      unfolding Stands
      elem_stands = go w₁.last refl
        where
          go : (o : Outcome) → w₁.last ≡ o → Stands f r₁ w₁ h o
          go Same e = grown_ready (stay e).grown elem_ready
          go (Changed m) e = (to m e).ready
          go (Stopped u) e = tt

      module _ (z : Perhaps Element) (y : Became f r₁ h count seen z w₁.last) where
        pub elem_put : (v : Element) → z ≡ Some v → k < 48 → Chunk f p nest list count flag room₀ w₀ r₁ w₁ t v.flag (set got k v.node) (k + 1)
        unfolding Became
        elem_put v ez lk = go w₁.last refl (subst (λ (a : Perhaps Element). Became f r₁ h count seen a w₁.last) ez y)
          where
            go : (o : Outcome) → w₁.last ≡ o → Became f r₁ h count seen (Some v) o → Chunk f p nest list count flag room₀ w₀ r₁ w₁ t v.flag (set got k v.node) (k + 1)
            go Same e q = rw q.node (same_again e v.flag q.sets lk)
            go (Changed n) e q = rw q.node (changed_again n e v.flag q.sets lk)
            go (Stopped u) e q = absurd q

        pub elem_refused : z ≡ None → Walked f room₀ r₁ w₀ (walk count (again nest) flag (tree_at f room₀ list) (spent_of w₀)) w₁
        unfolding Became
        elem_refused ez = go w₁.last refl (subst (λ (a : Perhaps Element). Became f r₁ h count seen a w₁.last) ez y)
          where
            go : (o : Outcome) → w₁.last ≡ o → Became f r₁ h count seen None o → Walked f room₀ r₁ w₀ (walk count (again nest) flag (tree_at f room₀ list) (spent_of w₀)) w₁
            go Same e q = absurd q
            go (Changed n) e q = absurd q
            go (Stopped u) e q = elem_stop u e
