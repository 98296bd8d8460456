-- Looking up a composed path is looking up one and then the other. Assumes nothing.
use Prim.Native.Nat.{ℕ, zero, suc, ◌+◌, ◌*◌, ◌/◌, ◌%◌, ◌≤◌}
use mathlib.Core.Path.{◌≡◌, refl, sym, ◌∙◌, ap, fun_ext}
use mathlib.Core.List.{List, [], ◌∷◌, ◌++◌}
use mathlib.Core.Bool.{Bool, true, false}
use mathlib.Core.Option.{Option, none, some}
use lib.Dec.{leb, eqb}
use native.Mathlib.Omega.{arith}
use Rattle.meaning.specs.Tree.{Tree, atom, pair}
use Rattle.meaning.proofs.Tests.{on_bool, leb_no}
use Rattle.meaning.specs.Number.{turns_in, turns, follow, lookup, onto, compose_paths}

-- any count that is large enough gives the same turns
turns_any : (k j n : ℕ) → n ≤ k → n ≤ j → turns_in k n ≡ turns_in j n
unfolding turns_in
turns_any zero zero n h i = refl
turns_any zero (suc j) n h i = let e : n ≡ 0 = omega arith in rw e
turns_any (suc k) zero n h i = let e : n ≡ 0 = omega arith in rw e
turns_any (suc k) (suc j) n h i =
    on_bool (leb n 1)
    (λ e. rw (e, turns_in))
    (λ e. rw (e, turns_in) (ap (eqb (n % 2) 1 ∷◌) (turns_any k j (n / 2) (omega arith) (omega arith))))

turns_step : (n : ℕ) → 2 ≤ n → turns n ≡ eqb (n % 2) 1 ∷ turns (n / 2)
unfolding turns
turns_step zero h = absurd (omega arith)
turns_step (suc k) h = rw (leb_no (suc k) 1 h, turns_in) (ap (eqb (suc k % 2) 1 ∷◌) (turns_any k (suc k / 2) (suc k / 2) (omega arith) (omega arith)))

turns_even : (m : ℕ) → 1 ≤ m → turns (2 * m) ≡ false ∷ turns m
turns_even m h = turns_step (2 * m) (omega arith) ∙ rw (e, d)
  where
    e : (2 * m) % 2 ≡ 0
    e = omega arith

    d : (2 * m) / 2 ≡ m
    d = omega arith

turns_odd : (m : ℕ) → 1 ≤ m → turns (2 * m + 1) ≡ true ∷ turns m
turns_odd m h = turns_step (2 * m + 1) (omega arith) ∙ rw (e, d)
  where
    e : (2 * m + 1) % 2 ≡ 1
    e = omega arith

    d : (2 * m + 1) / 2 ≡ m
    d = omega arith

pub onto_pos : (ds : List Bool) (q : ℕ) → 1 ≤ q → 1 ≤ onto ds q
unfolding onto
onto_pos [] q h = h
onto_pos (false ∷ ds) q h = let k = onto_pos ds q h in omega arith
onto_pos (true ∷ ds) q h = let k = onto_pos ds q h in omega arith

pub turns_onto : (ds : List Bool) (q : ℕ) → 1 ≤ q → turns (onto ds q) ≡ ds ++ turns q
unfolding onto
turns_onto [] q h = refl
turns_onto (false ∷ ds) q h = turns_even (onto ds q) (onto_pos ds q h) ∙ ap (false ∷◌) (turns_onto ds q h)
turns_onto (true ∷ ds) q h = turns_odd (onto ds q) (onto_pos ds q h) ∙ ap (true ∷◌) (turns_onto ds q h)

-- one after the other
unfoldable pub and_then : Option Tree → (Tree → Option Tree) → Option Tree
and_then none f = none
and_then (some t) f = f t

follow_append : (ds es : List Bool) (t : Tree) → follow (ds ++ es) t ≡ and_then (follow ds t) (follow es)
unfolding follow and_then
follow_append [] es t = refl
follow_append (d ∷ ds) es (atom b) = refl
follow_append (false ∷ ds) es (pair l r) = follow_append ds es l
follow_append (true ∷ ds) es (pair l r) = follow_append ds es r

-- a path that is not 0 leads where its turns do
pub lookup_turns : (n : ℕ) (t : Tree) → 1 ≤ n → lookup n t ≡ follow (turns n) t
unfolding lookup
lookup_turns zero t h = absurd (omega arith)
lookup_turns (suc n) t h = refl

pub lookup_compose : (p q : ℕ) (t : Tree) → 1 ≤ p → 1 ≤ q → lookup (compose_paths p q) t ≡ and_then (lookup p t) (lookup q)
unfolding compose_paths
lookup_compose p q t hp hq =
    lookup_turns _ t (onto_pos (turns p) q hq)
    ∙ ap (λ ds. follow ds t) (turns_onto (turns p) q hq)
    ∙ follow_append (turns p) (turns q) t
    ∙ rw (lookup_turns p t hp) (ap (and_then (follow (turns p) t)) (sym (fun_ext (λ u. lookup_turns q u hq))))

-- composing three paths gives the same number however they are bigint-from-bytes
pub onto_append : (ds es : List Bool) (r : ℕ) → onto (ds ++ es) r ≡ onto ds (onto es r)
unfolding onto
onto_append [] es r = refl
onto_append (false ∷ ds) es r = ap (2 *◌) (onto_append ds es r)
onto_append (true ∷ ds) es r = ap (λ n. 2 * n + 1) (onto_append ds es r)

pub compose_assoc : (p q r : ℕ) → 1 ≤ q → compose_paths (compose_paths p q) r ≡ compose_paths p (compose_paths q r)
unfolding compose_paths
compose_assoc p q r h = ap (λ ds. onto ds r) (turns_onto (turns p) q h) ∙ onto_append (turns p) (turns q) r
