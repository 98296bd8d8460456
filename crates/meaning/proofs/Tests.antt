-- To go by cases of a test, and what a test says. Assumes nothing.
use Prim.Native.Nat.{ℕ, ◌≤◌, ◌<◌}
use mathlib.Core.Path.{◌≡◌, refl, sym, subst}
use mathlib.Core.Bool.{Bool, true, false, ◌&&◌, ◌||◌}
use lib.Dec.{T, leb, eqb, leb→le, le→leb, eqb→eq}
use native.Mathlib.Omega.{arith}

-- to go by cases of a test, with what it said
pub on_bool {ℓ} : {X : Type ℓ} (b : Bool) → (b ≡ true → X) → (b ≡ false → X) → X
on_bool true f g = f refl
on_bool false f g = g refl

pub not_false : {X : Type 0} → false ≡ true → X
not_false h = absurd (subst T (sym h) tt)

pub not_true : {X : Type 0} → true ≡ false → X
not_true h = absurd (subst T h tt)

pub and_inv : (a b : Bool) → (a && b) ≡ true → (a ≡ true) × (b ≡ true)
and_inv true b h = (refl, h)
and_inv false b h = not_false h

pub or_no : (a b : Bool) → (a || b) ≡ false → (a ≡ false) × (b ≡ false)
or_no true b h = not_true h
or_no false b h = (refl, h)

pub eqb_sound : (m n : ℕ) → eqb m n ≡ true → m ≡ n
eqb_sound m n h = eqb→eq m n (subst T (sym h) tt)

pub leb_yes : (m n : ℕ) → leb m n ≡ true → m ≤ n
leb_yes m n h = leb→le m n (subst T (sym h) tt)

pub leb_true : (m n : ℕ) → m ≤ n → leb m n ≡ true
leb_true m n h = go (leb m n) (le→leb m n h)
  where
    go : (b : Bool) → T b → b ≡ true
    go true t = refl
    go false t = absurd t

pub leb_no : (m n : ℕ) → n < m → leb m n ≡ false
leb_no m n h = go (leb m n) refl
  where
    go : (b : Bool) → leb m n ≡ b → b ≡ false
    go true e = let k : m ≤ n = leb_yes m n e in absurd (omega arith)
    go false e = refl
