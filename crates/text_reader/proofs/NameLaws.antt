-- What the tests on a word say of the operator that it names. Assumes nothing.
use Prim.Native.Nat.{ℕ, suc, ◌+◌, ◌<◌, ◌≤◌}
use mathlib.Core.Path.{◌≡◌, refl, ◌∙◌, ap}
use mathlib.Core.List.{List, [], ◌∷◌}
use mathlib.Core.Option.{none, some}
use Rattle.std.specs.Prelude.{Some, None}
use Rattle.std.specs.Prelude.{Option as Maybe}
use native.Mathlib.Omega.{arith}
use borrow.Author.Tests.{eq-eqb, ne_eqb}
use lib.ListN.{length, get_or, drop}
use lib.Seq.{drop-cons}
use native.Mathlib.Numerals.{add-one}
use Rattle.notation.specs.declared.Place.{Place}
use Rattle.notation.specs.declared.Place.TheVariants.{Operator, Code, Data}
use Rattle.notation.specs.Words.{names, numbered, named, and_then}
use Rattle.text_reader.specs.Digits.{operator, named_by}

-- ---- operator_of

-- none of the first i names fits
pub record Seeking (c i : ℕ) : Type 0 where
  pub within : i ≤ 9
  pub is : numbered c 1 names ≡ numbered c (suc i) (drop i names)

module _ (c i : ℕ) (s : Seeking c i) where
  -- the name at which the loop stands
  seek_here : i < 9 → numbered c 1 names ≡ numbered c (suc i) (get_or names i 0 ∷ drop (suc i) names)
  seek_here h = s.is ∙ ap (numbered c (suc i)) (drop-cons names i 0 h)

  pub seek_turn : i < 9 → (c ≡ get_or names i 0 → ⊥) → Seeking c (i + 1)
  unfolding numbered
  seek_turn h n = record { within = omega arith; is = rw add-one (seek_here h ∙ rw (ne_eqb c (get_or names i 0) n, numbered)) }

  pub seek_found : i < 9 → c ≡ get_or names i 0 → named_by c ≡ operator (Some (i + 1))
  unfolding named_by operator numbered and_then
  seek_found h e =
      let z : numbered c 1 names ≡ some (i + 1) = seek_here h ∙ rw (eq-eqb c (get_or names i 0) e, numbered, add-one) in
      rw (z, named_by)

  pub seek_ends : 9 ≤ i → named_by c ≡ operator None
  unfolding named_by operator numbered and_then
  seek_ends h =
      let y : i ≡ 9 = omega (arith, s.within) in
      let z : numbered c 1 names ≡ none = s.is ∙ ap (λ (n : ℕ). numbered c (suc n) (drop n names)) y in
      rw (z, named_by)

-- ---- named

one_named : (w : List ℕ) → length w ≡ 1 → named Operator w ≡ named_by (get_or w 0 0)
unfolding named named_by
one_named [] h = absurd (omega arith)
one_named (c ∷ []) h = refl
one_named (c ∷ d ∷ w) h = absurd (omega arith)

module _ (w : List ℕ) {p : Place} where
  pub named_one : (r : Maybe ℕ) → named_by (get_or w 0 0) ≡ operator r → 1 ≤ length w → length w < 2 → p ≡ Operator → named p w ≡ operator r
  named_one r e h l f = rw f (one_named w (omega arith) ∙ e)

  pub named_none : p ≡ Operator → length w < 1 → named p w ≡ operator None
  unfolding named operator
  named_none f l = rw f (go w l)
    where
      go : (w : List ℕ) → length w < 1 → named Operator w ≡ operator None
      go [] l = refl
      go (c ∷ w) l = absurd (omega arith)

  pub named_long : p ≡ Operator → 2 ≤ length w → named p w ≡ operator None
  unfolding named operator
  named_long f h = rw f (go w h)
    where
      go : (w : List ℕ) → 2 ≤ length w → named Operator w ≡ operator None
      go [] h = absurd (omega arith)
      go (c ∷ []) h = absurd (omega arith)
      go (c ∷ d ∷ w) h = refl

  pub named_else : (p ≡ Operator → ⊥) → named p w ≡ operator None
  unfolding named operator
  named_else n = go p n
    where
      go : (p : Place) → (p ≡ Operator → ⊥) → named p w ≡ operator None
      go Operator n = absurd (n refl)
      go Code n = refl
      go Data n = refl
