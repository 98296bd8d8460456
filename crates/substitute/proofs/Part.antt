-- `cons_f` and `cons_r`: what they give and cost, where the arguments are (c A B) and where they are not. Assumes nothing.
use Rattle.refusals.specs.declared.Refusal.{Refusal}
use Rattle.std.specs.Prelude.{Result, Ok, Option as Got, Some, None}
use Prim.Native.Nat.{ℕ, ◌+◌}
use mathlib.Core.Path.{◌≡◌, refl, sym, ◌∙◌, ap}
use mathlib.Core.List.{List, [], ◌∷◌}
use mathlib.Core.Bool.{Bool, true, false}
use mathlib.Core.Option.{none, some}
use Rattle.meaning.specs.Tree.{Tree, pair, nil, byte, enlist}
use Rattle.meaning.specs.Limits.{pair_cost}
use Rattle.meaning.specs.Match.{Match, matched, no_match, too_many_names, match_sexp, got}
use Rattle.meaning.specs.Substitute.{first_name, rest_name, cons_pattern, or_else, cons_f, cons_r, part_cost}
use Rattle.meaning.proofs.Parts.{part_byte}
use Rattle.meaning.proofs.MatchLaws.{bind}
use Rattle.meaning.proofs.Shapes.{cons_shape}
use Rattle.store.specs.declared.Charges.{Charges}
use Rattle.store.specs.declared.Made.{Made}
use Rattle.store.specs.Nodes.{tree_at}
use Rattle.store.specs.Store.{Ready}
use Rattle.store.specs.Makers.{MadeOk}
use Rattle.store.proofs.Ready.{grown_ready, grown_tree}
use Rattle.pattern.specs.Bound.{got_at, GotIn, GotOk}
use Rattle.patterns.specs.Patterns.{Shows}
use Rattle.substitute.specs.Sub.{got_part, cons_part}
use Rattle.substitute.proofs.Bought.{bought_none, made_then}

-- both sides are bound, or neither
pub got_both : (t u : Tree) → got rest_name (match_sexp cons_pattern t []) ≡ some u → (v : Tree) × (got first_name (match_sexp cons_pattern t []) ≡ some v)
unfolding got
got_both t u h = go (match_sexp cons_pattern t []) refl h
  where
    go : (m : Match) → match_sexp cons_pattern t [] ≡ m → got rest_name m ≡ some u → (v : Tree) × (got first_name (match_sexp cons_pattern t []) ≡ some v)
    go (matched ks) e k =
        let (a, b, i, j) = cons_shape t [] ks refl e in
        let z : match_sexp cons_pattern t [] ≡ matched (bind first_name a ∷ bind rest_name b ∷ []) = e ∙ ap matched j in
        (a, rw z)
    go (no_match ds) e k = (t, cc)
    go too_many_names e k = (t, cc)

pub got_neither : (t : Tree) → got rest_name (match_sexp cons_pattern t []) ≡ none → got first_name (match_sexp cons_pattern t []) ≡ none
unfolding got
got_neither t h = go (match_sexp cons_pattern t []) refl h
  where
    go : (m : Match) → match_sexp cons_pattern t [] ≡ m → got rest_name m ≡ none → got first_name (match_sexp cons_pattern t []) ≡ none
    go (matched ks) e k =
        let (a, b, i, j) = cons_shape t [] ks refl e in
        let k' : some b ≡ none = rw j at k in
        cc
    go (no_match ds) e k = rw e
    go too_many_names e k = rw e

-- bound: the part itself, and nothing is charged
pub part_some : (right : Bool) (t u : Tree) → got_part right t ≡ some u → (part_cost t ≡ 0) × (cons_part right t ≡ u)
unfolding got_part cons_part part_cost or_else
part_some false t u h = (rw (h, part_cost), rw (h, cons_f))
part_some true t u h = let (v, k) = got_both t u h in (rw (k, part_cost), rw (h, cons_r))

-- not bound: a call, charged an atom and two pairs
pub part_none : (right : Bool) (t : Tree) → got_part right t ≡ none → (part_cost t ≡ 5 + (pair_cost + pair_cost)) × (cons_part right t ≡ pair (byte (part_byte right)) (pair t nil))
unfolding got_part cons_part part_cost or_else part_byte enlist
part_none false t h = (rw (h, part_cost), rw (h, cons_f))
part_none true t h = let k = got_neither t h in (rw (k, part_cost), rw (h, cons_r))

-- ---- what the matcher found, as the definitions have it

module _ (f s s' : List ℕ) (c : Charges) (g : Got ℕ) (n : ℕ) (t : Tree) (right : Bool) where
  pub part_first : GotOk f s s' c g (got first_name (match_sexp (tree_at f s n) t [])) → right ≡ false → Shows f s c n cons_pattern → GotOk f s s' c g (got_part right t)
  unfolding got_part
  part_first h i e = rw i (rw e.tree at h)

  pub part_rest : GotOk f s s' c g (got rest_name (match_sexp (tree_at f s n) t [])) → right ≡ true → Shows f s c n cons_pattern → GotOk f s s' c g (got_part right t)
  unfolding got_part
  part_rest h i e = rw i (rw e.tree at h)

module _ (f s s₁ : List ℕ) (c : Charges) (g : Got ℕ) (args : ℕ) (right : Bool) (h : GotOk f s s₁ c g (got_part right (tree_at f s args))) where
  -- the part is a node that was there
  pub cons_found : (n : ℕ) → g ≡ Some n → MadeOk f s s₁ c (part_cost (tree_at f s args)) (cons_part right (tree_at f s args)) (Ok (record { node = n; ch = c }))
  unfolding MadeOk got_at GotIn
  cons_found n e =
      let a : some (tree_at f s₁ n) ≡ got_part right (tree_at f s args) = rw e at h.answer in
      let r : Ready f s₁ c n = rw e at h.found in
      let (x, y) = part_some right (tree_at f s args) (tree_at f s₁ n) (sym a) in
      rw x (bought_none (cons_part right (tree_at f s args)) h.grown r (sym y))

  -- the arguments are still there for the call
  pub cons_args : Ready f s c args → Ready f s₁ c args
  cons_args r = grown_ready h.grown r

  pub cons_called : (s₂ : List ℕ) (o : ℕ) (a : Result Made Refusal) → MadeOk f s₁ s₂ c (5 + (pair_cost + pair_cost)) (pair (byte o) (pair (tree_at f s₁ args) nil)) a → o ≡ part_byte right → g ≡ None → Ready f s c args
      → MadeOk f s s₂ c (part_cost (tree_at f s args)) (cons_part right (tree_at f s args)) a
  unfolding got_at
  cons_called s₂ o a k i e r =
      let z : none ≡ got_part right (tree_at f s args) = rw e at h.answer in
      let (x, y) = part_none right (tree_at f s args) (sym z) in
      let w : tree_at f s₁ args ≡ tree_at f s args = grown_tree h.grown r in
      let k' : MadeOk f s₁ s₂ c (5 + (pair_cost + pair_cost)) (pair (byte (part_byte right)) (pair (tree_at f s args) nil)) a = rw (i, w) at k in
      rw (x, y) (made_then (bought_none (tree_at f s₁ args) h.grown (grown_ready h.grown r) refl) s₂ (5 + (pair_cost + pair_cost)) _ a k')

pub left_byte : (right : Bool) → right ≡ false → 5 ≡ part_byte right
unfolding part_byte
left_byte right e = rw e

pub right_byte : (right : Bool) → right ≡ true → 6 ≡ part_byte right
unfolding part_byte
right_byte right e = rw e
