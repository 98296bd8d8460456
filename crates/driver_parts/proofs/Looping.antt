-- drive: what holds at its loop's head, and each need there. Assumes nothing.
use mathlib.Core.Path.{◌≡◌, refl, sym, ◌∙◌, ap, subst}
use mathlib.Core.List.{List}
use mathlib.Core.Bool.{Bool, true, false}
use Prim.Native.Nat.{ℕ, suc, ◌+◌, ◌-◌, ◌<◌, ◌≤◌}
use native.Mathlib.Omega.{arith}
use lib.ListN.{length}
use Rattle.refusals.specs.declared.Refusal.{Refusal}
use Rattle.refusals.specs.declared.Refusal.TheVariants.{TooDeep}
use Rattle.meaning.specs.Tree.{Tree, atom, pair, equal_to}
use Rattle.meaning.specs.Limits.{pass_limit, height_at}
use Rattle.meaning.specs.Meter.{Out, done, stop, Spent, give, one_pass}
use Rattle.meaning.specs.Operator.{is_pair}
use Rattle.meaning.specs.Driver.{optimize_sexp}
use Rattle.meaning.proofs.Tests.{not_true, not_false}
use Rattle.meaning.proofs.SameLaws.{equal_to_same}
use Rattle.meaning.proofs.CostRun.{Fits}
use Rattle.meaning.proofs.CostDriver.{steady_turn}
use Rattle.meaning.proofs.Turn.{turn}
use Rattle.meaning.proofs.Ended.{turn_fits}
use Rattle.meaning.proofs.Differs.{Changes, changed_differs}
use Rattle.meaning.proofs.Outcomes.{no_pass, pass_stops, pass_same, pass_changes}
use Rattle.meaning.proofs.OperandsOutcomes.{works_atom, too_deep}
use Rattle.meaning.proofs.MeterLaws.{not_stop, seq_at, seq_stop, seq_inv}
use Rattle.store.specs.Nodes.{tree_at}
use Rattle.store.specs.Makers.{Grown}
use Rattle.store.proofs.Ready.{grown_none, grown_both, grown_ready, grown_tree}
use Rattle.patterns.specs.declared.Patterns.{Patterns}
use Rattle.run_state.specs.declared.Outcome.TheVariants.{Same, Changed, Stopped}
use Rattle.run_state.specs.declared.Work.{Work}
use Rattle.run_state.specs.Work.{spent_of, with_last, SameAs, ChangedTo, Did}
use Rattle.run_state.proofs.Does.{did_stopped, says_same, says_changed, says_stopped}
use Rattle.driver_parts.specs.Turns.{again, one_turn, Fine, outcome_of}
use Rattle.driver_parts.proofs.Saying.{say_same, say_changed, say_stopped}
use Rattle.driver_parts.proofs.Kept.{fine_kept, fine_fits}
use Rattle.driver_parts.proofs.Turning.{pass_pays}

-- ---- a call goes by its first turn

module _ (d : ℕ) (s : Spent) where
  call_stops : (t : Tree) (x : Spent) (m : Refusal) → one_turn (optimize_sexp d) t s ≡ stop m x → optimize_sexp (suc d) t s ≡ stop m x
  unfolding one_turn give
  call_stops (atom b) x m e = not_stop (sym e)
  call_stops (pair l r) x m e = go (one_pass s) refl
    where
      go : (o : Out Spent (Unit {0})) → one_pass s ≡ o → optimize_sexp (suc d) (pair l r) s ≡ stop m x
      go (done tt s₁) p = pass_stops d l r s s₁ p x m (sym (seq_at one_pass (turn (optimize_sexp d) (pair l r)) s s₁ tt p) ∙ e)
      go (stop n y) p = no_pass d l r s y n p ∙ sym (seq_stop one_pass (turn (optimize_sexp d) (pair l r)) s y n p) ∙ e

  call_same : (t : Tree) (x : Spent) → one_turn (optimize_sexp d) t s ≡ done t x → optimize_sexp (suc d) t s ≡ done t x
  unfolding one_turn give
  call_same (atom b) x e = works_atom d b s ∙ e
  call_same (pair l r) x e = let (y, s₁, p, q) = seq_inv one_pass (turn (optimize_sexp d) (pair l r)) s x (pair l r) e in pass_same d l r s s₁ p x q

  call_changes : (t u : Tree) (x : Spent) → one_turn (optimize_sexp d) t s ≡ done u x → equal_to t u ≡ false → optimize_sexp (suc d) t s ≡ optimize_sexp (suc d) u x
  unfolding one_turn give
  call_changes (atom b) u x e z =
      let i : atom b ≡ u = cc in
      not_true (sym (equal_to_same (atom b)) ∙ ap (equal_to (atom b)) i ∙ z)
  call_changes (pair l r) u x e z = let (y, s₁, p, q) = seq_inv one_pass (turn (optimize_sexp d) (pair l r)) s x u e in pass_changes d l r s s₁ p u x q z

  -- a turn that changes its tree: the tree is a pair, a pass was spent, and what is spent keeps to the limits
  record Turned (t : Tree) (x : Spent) : Type 0 where
    pairs : is_pair t ≡ true
    changes : Changes d t
    later : s.passes < x.passes
    fits : Fits x

  turned : (t u : Tree) (x : Spent) → Fits s → one_turn (optimize_sexp d) t s ≡ done u x → equal_to t u ≡ false → Turned t x
  unfolding one_turn give is_pair
  turned (atom b) u x f e z =
      let i : atom b ≡ u = cc in
      not_true (sym (equal_to_same (atom b)) ∙ ap (equal_to (atom b)) i ∙ z)
  turned (pair l r) u x f e z =
      let (y, s₁, p, q) = seq_inv one_pass (turn (optimize_sexp d) (pair l r)) s x u e in
      let (f₁, f₂) = turn_fits d (pair l r) u s s₁ x f p q in
      let c = steady_turn d 1 (pair l r) s₁ x u f₁ q in
      let k : x.passes ≡ s₁.passes + c.cost.passes = ap (λ (v : Spent). v.passes) c.spent in
      record {
        pairs = refl;
        changes = record { from = s₁; to = x; into = u; fits = f₁; did = q; other = z };
        later = omega (arith, (pass_pays s s₁ p).0);
        fits = f₂;
      }

-- what a call in which a turn changed the tree gives is another tree
call_differs : (d : ℕ) (t u : Tree) (s x : Spent) → is_pair t ≡ true → Changes d t → Fits s → optimize_sexp (suc d) t s ≡ done u x → equal_to t u ≡ false
unfolding is_pair optimize_sexp
call_differs d (atom b) u s x h c f e = not_false h
call_differs d (pair l r) u s x h c f e = changed_differs d (suc pass_limit) l r (pair l r) u s x c f e

-- ---- the invariant: the turns that follow give what the call gives

-- a turn of the call changed its tree
pub record Moved (f : List ℕ) (nest : ℕ) (room₀ : List ℕ) (n : ℕ) : Type 0 where
  pub pairs : is_pair (tree_at f room₀ n) ≡ true
  pub changes : Changes (height_at (nest + 1)) (tree_at f room₀ n)

pub record Looping (f : List ℕ) (p : Patterns) (nest : ℕ) (room₀ : List ℕ) (w₀ : Work) (n : ℕ) (room : List ℕ) (w : Work) (r : ℕ) (moved : Bool) : Type 0 where
  pub start : Fine f room₀ w₀ p n
  pub fine : Fine f room w p r
  pub nests : nest < 65
  pub grown : Grown f room₀ room w₀.ch w.ch
  pub moves : moved ≡ true → Moved f nest room₀ n
  pub still : moved ≡ false → tree_at f room r ≡ tree_at f room₀ n
  -- a call is at its own node as long as no turn changed it
  pub own : moved ≡ false → r ≡ n
  pub rest : optimize_sexp (suc (height_at (nest + 1))) (tree_at f room r) (spent_of w) ≡ optimize_sexp (height_at nest) (tree_at f room₀ n) (spent_of w₀)

one_deeper : (nest : ℕ) (t : Tree) (s : Spent) → nest < 65 → optimize_sexp (suc (height_at (nest + 1))) t s ≡ optimize_sexp (height_at nest) t s
one_deeper nest t s l = let e : suc (height_at (nest + 1)) ≡ height_at nest = omega arith in ap (λ (d : ℕ). optimize_sexp d t s) e

pub drive_deep : (f : List ℕ) (p : Patterns) (nest : ℕ) (room : List ℕ) (w q : Work) (n : ℕ) → Fine f room w p n → 65 ≤ nest → q ≡ with_last w (Stopped TooDeep)
    → Did f room room w (tree_at f room n) (optimize_sexp (height_at nest) (tree_at f room n) (spent_of w)) q
drive_deep f p nest room w q n h l eq =
    let e : height_at nest ≡ 0 = omega arith in
    did_stopped f room room w q _ _ TooDeep (spent_of w) eq (ap (λ (d : ℕ). optimize_sexp d (tree_at f room n) (spent_of w)) e ∙ too_deep (tree_at f room n) (spent_of w))

pub loop_starts : (f : List ℕ) (p : Patterns) (nest : ℕ) (room : List ℕ) (w : Work) (n : ℕ) → Fine f room w p n → nest < 65 → Looping f p nest room w n room w n false
loop_starts f p nest room w n h l = record {
  start = h;
  fine = h;
  nests = l;
  grown = grown_none f room w.ch h.ready.held;
  moves = λ m. not_false m;
  still = λ m. refl;
  own = λ m. refl;
  rest = one_deeper nest (tree_at f room n) (spent_of w) l;
}

module _ (f : List ℕ) (p : Patterns) (nest : ℕ) (room₀ : List ℕ) (w₀ : Work) (n : ℕ) (room : List ℕ) (w : Work) (r : ℕ) (moved : Bool) (i : Looping f p nest room₀ w₀ n room w r moved) where
  abbrev total : Out Spent Tree
  total = optimize_sexp (height_at nest) (tree_at f room₀ n) (spent_of w₀)

  abbrev x : Tree
  x = tree_at f room r

  pub loop_fine : Fine f room w p r
  loop_fine = i.fine

  pub loop_nest : nest < 65
  loop_nest = i.nests

  pub loop_long : length room ≡ length room₀
  loop_long = i.grown.long

  module _ (r₁ : List ℕ) (w₁ : Work) (d : Did f room r₁ w (tree_at f room r) (one_turn (again nest) (tree_at f room r) (spent_of w)) w₁) where
    pub loop_stop : (u : Refusal) → w₁.last ≡ Stopped u → Did f room₀ r₁ w₀ (tree_at f room₀ n) (optimize_sexp (height_at nest) (tree_at f room₀ n) (spent_of w₀)) w₁
    loop_stop u e =
        let z = says_stopped f room r₁ w w₁ _ _ d u e in
        say_stopped f room₀ r₁ w₀ w₁ _ _ u z.after e (sym i.rest ∙ call_stops (height_at (nest + 1)) (spent_of w) x z.after u z.stops)

    -- the call ends at r
    pub loop_ends : (q : Work) → q ≡ with_last w₁ (outcome_of moved r) → w₁.last ≡ Same → Did f room₀ r₁ w₀ (tree_at f room₀ n) (optimize_sexp (height_at nest) (tree_at f room₀ n) (spent_of w₀)) q
    unfolding outcome_of
    loop_ends q eq e = go moved refl eq
      where
        stay : SameAs f room r₁ w w₁ x (one_turn (again nest) x (spent_of w))
        stay = says_same f room r₁ w w₁ _ _ d e

        gave : total ≡ done x (spent_of w₁)
        gave = sym i.rest ∙ call_same (height_at (nest + 1)) (spent_of w) x (spent_of w₁) stay.gives

        o : total ≡ done (tree_at f r₁ r) (spent_of w₁)
        o = gave ∙ ap (λ (t : Tree). done t (spent_of w₁)) (sym (grown_tree stay.grown i.fine.ready))

        go : (b : Bool) → moved ≡ b → q ≡ with_last w₁ (outcome_of b r) → Did f room₀ r₁ w₀ (tree_at f room₀ n) total q
        go true m z =
            let v = i.moves m in
            rw z
            (say_changed f room₀ r₁ w₀ (with_last w₁ (Changed r)) _ _ r refl
            (record {
              grown = grown_both i.grown stay.grown;
              ready = grown_ready stay.grown i.fine.ready;
              gives = o;
              differs =
                  call_differs (height_at (nest + 1)) (tree_at f room₀ n) (tree_at f r₁ r) (spent_of w₀) (spent_of w₁) v.pairs v.changes (fine_fits f room₀ w₀ p n i.start)
                  (one_deeper nest (tree_at f room₀ n) (spent_of w₀) i.nests ∙ o);
            }))
        go false m z =
            rw z
            (say_same f room₀ r₁ w₀ (with_last w₁ Same) _ _ refl
            (record { grown = grown_both i.grown stay.grown; gives = gave ∙ ap (λ (t : Tree). done t (spent_of w₁)) (i.still m) }))

    module _ (m : ℕ) (e : w₁.last ≡ Changed m) where
      abbrev new : ChangedTo f room r₁ w w₁ (tree_at f room r) m (one_turn (again nest) (tree_at f room r) (spent_of w))
      new = says_changed f room r₁ w w₁ _ _ d m e

      abbrev by_turn : Turned (height_at (nest + 1)) (spent_of w) (tree_at f room r) (spent_of w₁)
      by_turn = turned (height_at (nest + 1)) (spent_of w) x (tree_at f r₁ m) (spent_of w₁) (fine_fits f room w p r i.fine) new.gives new.differs

      -- the first turn that changed a tree changed the tree of the call
      changes : (b : Bool) → moved ≡ b → Moved f nest room₀ n
      changes true q = i.moves q
      changes false q = record { pairs = rw (← i.still q) by_turn.pairs; changes = subst (Changes (height_at (nest + 1))) (i.still q) by_turn.changes }

      pub loop_less : pass_limit - w₁.passes < pass_limit - w.passes
      loop_less = omega (arith, by_turn.later, by_turn.fits.1)

      pub loop_changed : Looping f p nest room₀ w₀ n r₁ w₁ m true
      loop_changed = record {
        start = i.start;
        fine = fine_kept f room r₁ w w₁ p r m i.fine new.grown new.ready by_turn.fits.1;
        nests = i.nests;
        grown = grown_both i.grown new.grown;
        moves = λ q. changes moved refl;
        still = λ q. not_true q;
        own = λ q. not_true q;
        rest = sym (call_changes (height_at (nest + 1)) (spent_of w) x (tree_at f r₁ m) (spent_of w₁) new.gives new.differs) ∙ i.rest;
      }
