-- Which atoms have a name, and an atom's text by its choice. Assumes nothing.
use mathlib.Core.Path.{◌≡◌, refl, sym, ◌∙◌, ap}
use mathlib.Core.List.{List, [], ◌∷◌}
use mathlib.Core.Bool.{Bool, true, false, ◌&&◌}
use mathlib.Core.Option.{Option, none, some}
use Prim.Native.Nat.{ℕ, ◌-◌, ◌<◌, ◌≤◌}
use native.Mathlib.Omega.{arith}
use lib.ListN.{get_or, length}
use lib.Dec.{eqb, leb}
use borrow.Author.Tests.{eq-eqb, le-leb, lt-leb, leb-true}
use Rattle.meaning.proofs.Tests.{eqb_sound, on_bool, and_inv, not_false}
use Rattle.notation.specs.declared.Place.{Place}
use Rattle.notation.specs.declared.Place.TheVariants.{Operator, Code, Data}
use Rattle.notation.specs.Words.{names, name_of, name_at, hex, atom_text}
use Rattle.text_writer.specs.Parts.{has_name}

-- ---- one byte

pub name_is : (k : ℕ) → 1 ≤ k → k ≤ 9 → name_of k ≡ some (get_or names (k - 1) 0)
unfolding name_of
name_is k h g = rw (le-leb 1 k h, le-leb k 9 g, name_of)

-- a byte has a name from 1 to 9
one_name : (x : ℕ) → has_name Operator (x ∷ []) ≡ (leb 1 x && leb x 9)
unfolding has_name name_at name_of
one_name x = on_bool (leb 1 x && leb x 9) (λ e. rw (e, has_name)) (λ e. rw (e, has_name))

-- ---- whether there are bytes

pub no_bytes : (b : List ℕ) (u : Bool) → u ≡ eqb (length b) 0 → u ≡ true → length b ≡ 0
no_bytes b u e h = eqb_sound (length b) 0 (sym e ∙ h)

pub some_bytes : (b : List ℕ) (u : Bool) → u ≡ eqb (length b) 0 → u ≡ false → length b ≡ 0 → ⊥
some_bytes b u e h z = not_false (sym h ∙ e ∙ eq-eqb (length b) 0 z)

-- ---- whether a name fits

module _ (p : Place) (b : List ℕ) where
  -- one byte, by its bounds
  pub fits_one : p ≡ Operator → 1 ≤ length b → length b < 2 → 1 ≤ get_or b 0 0 → get_or b 0 0 < 10 → true ≡ has_name p b
  fits_one i h l m n = go b h l m n ∙ sym (ap (λ (q : Place). has_name q b) i)
    where
      go : (b : List ℕ) → 1 ≤ length b → length b < 2 → 1 ≤ get_or b 0 0 → get_or b 0 0 < 10 → true ≡ has_name Operator b
      go [] h l m n = absurd (omega arith)
      go (x ∷ []) h l m n = sym (one_name x ∙ rw (le-leb 1 x m, le-leb x 9 (omega arith)))
      go (x ∷ y ∷ b) h l m n = absurd (omega arith)

  pub fits_low : p ≡ Operator → 1 ≤ length b → length b < 2 → get_or b 0 0 < 1 → false ≡ has_name p b
  fits_low i h l m = go b h l m ∙ sym (ap (λ (q : Place). has_name q b) i)
    where
      go : (b : List ℕ) → 1 ≤ length b → length b < 2 → get_or b 0 0 < 1 → false ≡ has_name Operator b
      go [] h l m = absurd (omega arith)
      go (x ∷ []) h l m = sym (one_name x ∙ rw (lt-leb 1 x m))
      go (x ∷ y ∷ b) h l m = absurd (omega arith)

  pub fits_high : p ≡ Operator → 1 ≤ length b → length b < 2 → 9 < get_or b 0 0 → false ≡ has_name p b
  fits_high i h l n = go b h l n ∙ sym (ap (λ (q : Place). has_name q b) i)
    where
      go : (b : List ℕ) → 1 ≤ length b → length b < 2 → 9 < get_or b 0 0 → false ≡ has_name Operator b
      go [] h l n = absurd (omega arith)
      go (x ∷ []) h l n = sym (one_name x ∙ rw (le-leb 1 x (omega arith), lt-leb x 9 n))
      go (x ∷ y ∷ b) h l n = absurd (omega arith)

  pub fits_none : p ≡ Operator → length b < 1 → false ≡ has_name p b
  unfolding has_name name_at
  fits_none i h = go b h ∙ sym (ap (λ (q : Place). has_name q b) i)
    where
      go : (b : List ℕ) → length b < 1 → false ≡ has_name Operator b
      go [] h = refl
      go (x ∷ b) h = absurd (omega arith)

  pub fits_more : p ≡ Operator → 2 ≤ length b → false ≡ has_name p b
  unfolding has_name name_at
  fits_more i h = go b h ∙ sym (ap (λ (q : Place). has_name q b) i)
    where
      go : (b : List ℕ) → 2 ≤ length b → false ≡ has_name Operator b
      go [] h = absurd (omega arith)
      go (x ∷ []) h = absurd (omega arith)
      go (x ∷ y ∷ b) h = refl

  pub fits_code : p ≡ Code → false ≡ has_name p b
  unfolding has_name name_at
  fits_code i = rw i

  pub fits_data : p ≡ Data → false ≡ has_name p b
  unfolding has_name name_at
  fits_data i = rw i

-- ---- what a name that fits says

pub record Named (p : Place) (b : List ℕ) : Type 0 where
  pub low : 1 ≤ get_or b 0 0
  pub high : get_or b 0 0 ≤ 9
  pub some_byte : 0 < length b
  pub is : name_at p b ≡ name_of (get_or b 0 0)

named : (p : Place) (b : List ℕ) → has_name p b ≡ true → Named p b
unfolding has_name name_at
named Operator [] h = not_false h
named Operator (x ∷ []) h =
    let (l, g) = and_inv (leb 1 x) (leb x 9) (sym (one_name x) ∙ h) in
    record { low = leb-true 1 x l; high = leb-true x 9 g; some_byte = omega arith; is = refl }
named Operator (x ∷ y ∷ b) h = not_false h
named Code b h = not_false h
named Data b h = not_false h

module _ (p : Place) (b : List ℕ) (u : Bool) (e : u ≡ has_name p b) (h : u ≡ true) where
  fits : Named p b
  fits = named p b (sym e ∙ h)

  pub byte_low : 1 ≤ get_or b 0 0
  byte_low = fits.low

  pub byte_high : get_or b 0 0 ≤ 9
  byte_high = fits.high

  pub text_named : (c : ℕ) → name_of (get_or b 0 0) ≡ some c → atom_text p b ≡ c ∷ []
  unfolding atom_text
  text_named c i = go b fits.some_byte (fits.is ∙ i)
    where
      go : (b : List ℕ) → 0 < length b → name_at p b ≡ some c → atom_text p b ≡ c ∷ []
      go [] l i = absurd (omega arith)
      go (x ∷ b) l i = rw (i, atom_text)

-- ---- the other two

pub text_nil : (p : Place) (b : List ℕ) → length b ≡ 0 → atom_text p b ≡ 0x28 ∷ 0x29 ∷ []
unfolding atom_text
text_nil p [] e = refl
text_nil p (x ∷ b) e = absurd (omega arith)

nameless : (p : Place) (b : List ℕ) → has_name p b ≡ false → name_at p b ≡ none
unfolding has_name
nameless p b h = go (name_at p b) h
  where
    go : (o : Option ℕ) → elim o as (λ _. Bool) [ some c ↦ true | none ↦ false ] ≡ false → o ≡ none
    go (some c) e = not_false (sym e)
    go none e = refl

pub text_hex : (p : Place) (b : List ℕ) (u : Bool) → u ≡ has_name p b → u ≡ false → (length b ≡ 0 → ⊥) → atom_text p b ≡ 0x30 ∷ 0x78 ∷ hex b
unfolding atom_text
text_hex p [] u e h n = absurd (n refl)
text_hex p (x ∷ b) u e h n = rw (nameless p (x ∷ b) (sym e ∙ h), atom_text)
