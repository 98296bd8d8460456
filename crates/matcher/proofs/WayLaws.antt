-- The way down to the place of a failure: what each call and each return needs. Assumes nothing.
use Prim.Native.Nat.{ℕ, zero, suc, ◌+◌, ◌-◌, ◌^◌, ◌≤◌, ◌<◌}
use mathlib.Core.Path.{◌≡◌, refl, sym, ◌∙◌, ap, ap₂, subst}
use mathlib.Core.List.{List, [], ◌∷◌, ◌++◌, append-nil}
use mathlib.Core.Bool.{Bool, true, false}
use native.Mathlib.Omega.{arith}
use lib.ListN.{length, take, drop, replicate, length-append, length-drop}
use lib.Seq.{take_all}
use Rattle.std.specs.Prelude.{Option, Some, None}
use Rattle.meaning.specs.Tree.{atom, pair}
use Rattle.meaning.specs.Limits.{place_turns}
use Rattle.meaning.specs.Number.{number, onto, compose_paths, bytes_of}
use Rattle.meaning.specs.Match as meaning
use Rattle.meaning.proofs.Tests.{leb_true, leb_no}
use Rattle.meaning.proofs.Verdict.{IsNo, is_matched, is_failed, is_third, in_part_verdict}
use Rattle.meaning.proofs.Places.{unify_here, atom_here, at_here}
use Rattle.meaning.proofs.PathLaws.{turns_onto, onto_append}
use Rattle.store.specs.declared.Cell.{Cell}
use Rattle.store.specs.declared.Cell.TheVariants.{Pair, Atom}
use Rattle.store.specs.declared.Charges.{Charges}
use Rattle.store.specs.Cells.{cell_at, bytes_at, Room}
use Rattle.store.specs.Nodes.{tree_at}
use Rattle.store.specs.Store.{Ready}
use Rattle.store.proofs.Ready as ready
use Rattle.store.proofs.Trees.{tree_pair}
use Rattle.form.proofs.Lend.{lent, back, lent_length, back_is}
use Rattle.pattern.specs.declared.Bindings.{Bindings}
use Rattle.pattern.specs.declared.Match.{Match}
use Rattle.pattern.specs.declared.Match.TheVariants.{Matched, NoMatch, TooManyNames}
use Rattle.pattern.specs.Bound.{bindings_at, Bound, no_bindings, match_at, BoundIn, MatchOk}
use Rattle.pattern.specs.Cases.{takes_any, in_parts}
use Rattle.pattern.proofs.Laws as laws
use Rattle.pattern.proofs.Trees as trees
use Rattle.pattern.proofs.Kept as kept
use Rattle.paths.specs.declared.casts.Number.{Number}
use Rattle.paths.specs.Wide.{Holds}
use Rattle.paths.proofs.SizeLaws.{short_bytes}
use Rattle.paths.proofs.ShortestLaws.{held_len}
use Rattle.matcher.specs.declared.way.Part.{Part}
use Rattle.matcher.specs.Way.{match_of, OnWay, Below, StepOk}
use Rattle.matcher.proofs.PlaceLaws.{turns_fit}

-- ---- below: two pairs

module _ (f s : List ℕ) (c : Charges) (w : Part) (a b l r : ℕ) (s₁ : List ℕ) (x : Match) (h : MatchOk f s s₁ c x (meaning.match_sexp (tree_at f s a) (tree_at f s l) (bindings_at f s w.ks)))
    (on : OnWay f s c w) (parts : in_parts (tree_at f s a) (tree_at f s b) (tree_at f s l) (tree_at f s r) (bindings_at f s w.ks) ≡ match_of f s w) where
  abbrev first : meaning.Match
  first = meaning.match_sexp (tree_at f s a) (tree_at f s l) (bindings_at f s w.ks)

  -- what is the left part's, or the right one's
  side_below : (v : Part) (d : Bool) → Ready f s₁ c v.pattern → Ready f s₁ c v.node → Bound f s₁ c v.ks
      → match_of f s w ≡ meaning.in_part d (match_of f s₁ v) → v.turn ≡ onto (d ∷ []) 1 → Below f s s₁ c w v
  side_below v d rp rn bd e i = record {
    on = record {
      pattern = rp;
      node = rn;
      bound = bd;
      fails = on.fails ∙ ap meaning.verdict e ∙ in_part_verdict d (match_of f s₁ v);
    };
    turn = d;
    whole = e;
    path = i;
  }

  pub left_below : x ≡ NoMatch → Ready f s c a → Ready f s c l → StepOk f s s₁ c w (Some (record { pattern = a; node = l; ks = w.ks; turn = 2 }))
  unfolding StepOk match_of match_at meaning.in_part onto
  left_below ex ra rl =
      let (ds, z) = is_failed first (rw ex at h.answer) in
      let ta : tree_at f s₁ a ≡ tree_at f s a = ready.grown_tree h.grown ra in
      let tl : tree_at f s₁ l ≡ tree_at f s l = ready.grown_tree h.grown rl in
      let tk : bindings_at f s₁ w.ks ≡ bindings_at f s w.ks = kept.bindings_after h.grown on.bound in
      let e : meaning.in_part false first ≡ match_of f s w =
      ap (meaning.in_part false) (sym z) ∙ trees.parts_not (tree_at f s a) (tree_at f s b) (tree_at f s l) (tree_at f s r) (bindings_at f s w.ks) ds z ∙ parts in
      side_below (record { pattern = a; node = l; ks = w.ks; turn = 2 }) false (ready.grown_ready h.grown ra) (ready.grown_ready h.grown rl) (kept.bound_after h.grown on.bound)
      (rw (ta, tl, tk) (sym e)) refl

  pub right_below : (js : Bindings) → x ≡ Matched js → Ready f s c b → Ready f s c r → StepOk f s s₁ c w (Some (record { pattern = b; node = r; ks = js; turn = 3 }))
  unfolding StepOk match_of match_at BoundIn onto
  right_below js ex rb rr =
      let z : meaning.matched (bindings_at f s₁ js) ≡ first = is_matched first (bindings_at f s₁ js) (rw ex at h.answer) in
      let tb : tree_at f s₁ b ≡ tree_at f s b = ready.grown_tree h.grown rb in
      let tr : tree_at f s₁ r ≡ tree_at f s r = ready.grown_tree h.grown rr in
      let e : meaning.in_part true (meaning.match_sexp (tree_at f s b) (tree_at f s r) (bindings_at f s₁ js)) ≡ match_of f s w =
      trees.parts_matched (tree_at f s a) (tree_at f s b) (tree_at f s l) (tree_at f s r) (bindings_at f s w.ks) (bindings_at f s₁ js) z ∙ parts in
      side_below (record { pattern = b; node = r; ks = js; turn = 3 }) true (ready.grown_ready h.grown rb) (ready.grown_ready h.grown rr) (rw ex at h.bound)
      (rw (tb, tr) (sym e)) refl

  -- a third name is no failure
  pub none_below : x ≡ TooManyNames → StepOk f s s₁ c w None
  unfolding match_at meaning.verdict IsNo
  none_below ex =
      let z : meaning.too_many_names ≡ first = is_third first (rw ex at h.answer) in
      let e : meaning.too_many_names ≡ match_of f s w = trees.parts_many (tree_at f s a) (tree_at f s b) (tree_at f s l) (tree_at f s r) (bindings_at f s w.ks) z ∙ parts in
      let n : meaning.no ≡ meaning.third_name = on.fails ∙ ap meaning.verdict (sym e) in
      absurd (subst IsNo n tt)

-- ---- next

module _ (f s : List ℕ) (c : Charges) (w : Part) (on : OnWay f s c w) where
  pub pattern_room : Room s w.pattern
  pattern_room = ready.room f s c w.pattern on.pattern

  pub node_room : Room s w.node
  node_room = ready.room f s c w.node on.node

pub atom_stops : (f s : List ℕ) (c : Charges) (w : Part) (q : Cell) → q ≡ Atom → q ≡ cell_at s w.pattern → OnWay f s c w → StepOk f s s c w None
unfolding StepOk match_of
atom_stops f s c w q e eq on =
    let t : tree_at f s w.pattern ≡ atom (bytes_at f s w.pattern) = ready.look_atom f s w.pattern q eq e in
    rw t (atom_here (bytes_at f s w.pattern) (tree_at f s w.node) (bindings_at f s w.ks) (rw t at on.fails))

module _ (f s : List ℕ) (c : Charges) (w : Part) (a b : ℕ) (q : Cell) (ep : q ≡ Pair a b) (eq : q ≡ cell_at s w.pattern) (on : OnWay f s c w) where
  pub head_room : Room s a
  head_room = ready.room_left f s c w.pattern a b q ep eq (ready.room f s c w.pattern on.pattern)

  pub rest_room : Room s b
  rest_room = ready.room_right f s c w.pattern a b q ep eq (ready.room f s c w.pattern on.pattern)

  pub part_a : Ready f s c a
  part_a = ready.ready_left f s c w.pattern a b q ep eq on.pattern

  pub part_b : Ready f s c b
  part_b = ready.ready_right f s c w.pattern a b q ep eq on.pattern

  pub leaf_stops : (q' : Cell) → q' ≡ Atom → q' ≡ cell_at s w.node → StepOk f s s c w None
  unfolding StepOk match_of
  leaf_stops q' e eq' =
      let t : tree_at f s w.pattern ≡ pair (tree_at f s a) (tree_at f s b) = tree_pair f s w.pattern a b (sym eq ∙ ep) in
      let u : tree_at f s w.node ≡ atom (bytes_at f s w.node) = ready.look_atom f s w.node q' eq' e in
      rw (t, u) (at_here (tree_at f s a) (tree_at f s b) (bytes_at f s w.node) (bindings_at f s w.ks) (rw (t, u) at on.fails))

  module _ (l r : ℕ) (q' : Cell) (ep' : q' ≡ Pair l r) (eq' : q' ≡ cell_at s w.node) (u : Bool) (eu : u ≡ takes_any (tree_at f s a) (tree_at f s b)) where
    pub parts_are : u ≡ false → in_parts (tree_at f s a) (tree_at f s b) (tree_at f s l) (tree_at f s r) (bindings_at f s w.ks) ≡ match_of f s w
    unfolding match_of
    parts_are d = rw (tree_pair f s w.pattern a b (sym eq ∙ ep), tree_pair f s w.node l r (sym eq' ∙ ep'))
        (trees.pair_parts (tree_at f s a) (tree_at f s b) (tree_at f s l) (tree_at f s r) (bindings_at f s w.ks) (sym d ∙ eu))

    pub any_stops : u ≡ true → StepOk f s s c w None
    unfolding StepOk match_of
    any_stops d =
        let e : meaning.unify_bindings (bindings_at f s w.ks) (bytes_at f s b) (tree_at f s w.node) ≡ match_of f s w =
        laws.any_is f s c w.pattern w.node a b l r w.ks q q' eq ep eq' ep' on.pattern u eu d in
        unify_here (bindings_at f s w.ks) (bytes_at f s b) (tree_at f s w.node) (on.fails ∙ ap meaning.verdict (sym e)) ∙ e

module _ (f s : List ℕ) (c : Charges) (w : Part) (l r : ℕ) (q : Cell) (ep : q ≡ Pair l r) (eq : q ≡ cell_at s w.node) (on : OnWay f s c w) where
  pub part_l : Ready f s c l
  part_l = ready.ready_left f s c w.node l r q ep eq on.node

  pub part_r : Ready f s c r
  part_r = ready.ready_right f s c w.node l r q ep eq on.node

-- ---- in_64

zeros_front : (z k n : ℕ) → k ≤ n → take k (replicate n z) ≡ replicate k z
zeros_front z zero n h = refl
zeros_front z (suc k) zero h = absurd (omega arith)
zeros_front z (suc k) (suc n) h = ap (z ∷◌) (zeros_front z k n (omega arith))

module _ (p : Number) (h : Holds (number p.bytes) p) (l : number p.bytes < 256 ^ 64) where
  pub path_short : p.len ≤ 64
  path_short = let a : length (bytes_of (number p.bytes)) ≤ 64 = short_bytes (number p.bytes) 64 l in let b : p.len ≡ length (bytes_of (number p.bytes)) = held_len h in omega arith

  -- the path's shortest bytes, and the 64 bytes to whose end they go
  abbrev src : List ℕ
  src = take (length p.bytes - (65 - p.len)) (drop (65 - p.len) p.bytes)

  abbrev zeros : List ℕ
  zeros = replicate 64 0

  src_is : src ≡ bytes_of (number p.bytes)
  src_is =
      let a : length (drop (65 - p.len) p.bytes) ≡ length p.bytes - (65 - p.len) = length-drop (65 - p.len) p.bytes in
      let b : length p.bytes ≡ 65 = h.wide in
      take_all (length p.bytes - (65 - p.len)) (drop (65 - p.len) p.bytes) (omega arith) ∙ h.shown

  src_long : length src ≡ p.len
  src_long = ap length src_is ∙ sym (held_len h)

  pub copy_fits : length (lent zeros (64 - p.len)) ≡ length src
  copy_fits = let a : length (lent zeros (64 - p.len)) ≡ 64 - (64 - p.len) = lent_length zeros (64 - p.len) in let b = src_long in let d = path_short in omega arith

  pub path_placed : (ys : List ℕ) → ys ≡ src → back zeros (64 - p.len) ys ≡ meaning.place_bytes (number p.bytes)
  unfolding meaning.place_bytes
  path_placed ys e =
      let k = path_short in
      let c : take (64 - p.len) zeros ≡ replicate (64 - p.len) 0 = zeros_front 0 (64 - p.len) 64 (omega arith) in
      let y : ys ≡ bytes_of (number p.bytes) = e ∙ src_is in
      back_is zeros (64 - p.len) ys ∙ ap₂ ◌++◌ c y ∙ ap (λ m. replicate (64 - m) 0 ++ bytes_of (number p.bytes)) (held_len h)

-- ---- place_node

-- a match under turns that lead to it
unfoldable pub under : List Bool → meaning.Match → meaning.Match
unfolding meaning.in_part
under [] m = m
under (d ∷ ds) m = meaning.in_part d (under ds m)

under_more : (ds : List Bool) (d : Bool) (m : meaning.Match) → under ds (meaning.in_part d m) ≡ under (ds ++ (d ∷ [])) m
unfolding under
under_more [] d m = refl
under_more (e ∷ ds) d m = ap (meaning.in_part e) (under_more ds d m)

under_not : (ds es : List Bool) → under ds (meaning.no_match es) ≡ meaning.no_match (ds ++ es)
unfolding under meaning.in_part
under_not [] es = refl
under_not (d ∷ ds) es = ap (meaning.in_part d) (under_not ds es)

-- so many turns down from the match m
pub record Walking (f s₀ s : List ℕ) (c : Charges) (m : meaning.Match) (w : Part) (path : Number) (turned : ℕ) : Type 0 where
  pub same : length s ≡ length s₀
  pub on : OnWay f s c w
  pub done : List Bool
  pub count : length done ≡ turned
  pub whole : m ≡ under done (match_of f s w)
  pub to : Holds (onto done 1) path

pub walk_starts : (f s : List ℕ) (c : Charges) (p n : ℕ) (k : Bindings) (o : Number) → k ≡ no_bindings → Holds (number (1 ∷ [])) o → Ready f s c p → Ready f s c n
    → meaning.no ≡ meaning.verdict (meaning.match_sexp (tree_at f s p) (tree_at f s n) []) → Walking f s s c (meaning.match_sexp (tree_at f s p) (tree_at f s n) []) (record { pattern = p; node = n; ks = k; turn = 1 }) o 0
unfolding match_of under onto number
walk_starts f s c p n k o e h rp rn d =
    let z : bindings_at f s k ≡ [] = rw e (kept.none_are f s) in
    record {
      same = refl;
      on = record { pattern = rp; node = rn; bound = rw e (kept.none_bound rp.held); fails = rw z d };
      done = [];
      count = refl;
      whole = rw z;
      to = h;
    }

module _ (f s₀ s : List ℕ) (c : Charges) (m : meaning.Match) (w : Part) (path : Number) (turned : ℕ) (g : Walking f s₀ s c m w path turned) where
  pub walk_holds : Holds (number path.bytes) path
  walk_holds = rw g.to.value g.to

  pub walk_short : turned < 512 → number path.bytes < 256 ^ 64
  walk_short h =
      let e : length g.done ≡ turned = g.count in
      rw g.to.value (turns_fit g.done 64 (omega arith))

  pub walk_ends : (s₁ : List ℕ) (t : Option Part) (r : List ℕ) → r ≡ meaning.place_bytes (number path.bytes) → StepOk f s s₁ c w t → t ≡ None → turned < 512 → r ≡ meaning.place_bytes (meaning.place m)
  unfolding StepOk meaning.place
  walk_ends s₁ t r e o et h =
      let z : meaning.no_match [] ≡ match_of f s w = rw et at o in
      let i : m ≡ meaning.no_match g.done = g.whole ∙ ap (under g.done) (sym z) ∙ under_not g.done [] ∙ ap meaning.no_match (append-nil g.done) in
      let n : length g.done ≡ turned = g.count in
      let k : meaning.place (meaning.no_match g.done) ≡ onto g.done 1 = rw (leb_true (length g.done) place_turns (omega arith), meaning.place) in
      e ∙ ap meaning.place_bytes (g.to.value ∙ sym (ap meaning.place i ∙ k))

  pub walk_deep : 512 ≤ turned → meaning.place_bytes 0 ≡ meaning.place_bytes (meaning.place m)
  unfolding meaning.place
  walk_deep h =
      let (ds, z) = is_failed (match_of f s w) g.on.fails in
      let i : m ≡ meaning.no_match (g.done ++ ds) = g.whole ∙ ap (under g.done) (sym z) ∙ under_not g.done ds in
      let l : length (g.done ++ ds) ≡ length g.done + length ds = length-append g.done ds in
      let n : length g.done ≡ turned = g.count in
      let k : meaning.place (meaning.no_match (g.done ++ ds)) ≡ 0 = rw (leb_no (length (g.done ++ ds)) place_turns (omega arith), meaning.place) in
      ap meaning.place_bytes (sym (ap meaning.place i ∙ k))

  pub walk_again : (s₁ : List ℕ) (t : Option Part) (v : Part) (path₁ : Number) → Holds (compose_paths (number path.bytes) v.turn) path₁ → StepOk f s s₁ c w t → t ≡ Some v → length s₁ ≡ length s → Walking f s₀ s₁ c m v path₁ (turned + 1)
  unfolding StepOk compose_paths onto
  walk_again s₁ t v path₁ q o et n =
      let b : Below f s s₁ c w v = rw et at o in
      let e : compose_paths (number path.bytes) v.turn ≡ onto (g.done ++ (b.turn ∷ [])) 1 =
      ap₂ compose_paths g.to.value b.path
      ∙ ap (λ ds. onto ds (onto (b.turn ∷ []) 1)) (turns_onto g.done 1 (omega arith) ∙ append-nil g.done) ∙ sym (onto_append g.done (b.turn ∷ []) 1) in
      record {
        same = n ∙ g.same;
        on = b.on;
        done = g.done ++ (b.turn ∷ []);
        count = length-append g.done (b.turn ∷ []) ∙ ap (◌+ 1) g.count;
        whole = g.whole ∙ ap (under g.done) b.whole ∙ under_more g.done b.turn (match_of f s₁ v);
        to = rw e at q;
      }
