-- The output with something at its front, and what remains of it lent to a call that writes there. Assumes nothing.
use mathlib.Core.Path.{◌≡◌, refl, sym, ◌∙◌, ap, ap₂}
use mathlib.Core.List.{List, [], ◌∷◌, ◌++◌, append_assoc, append-nil}
use Prim.Native.Nat.{ℕ, suc, ◌+◌, ◌-◌, ◌<◌, ◌≤◌}
use native.Mathlib.Omega.{arith}
use lib.ListN.{length, take, drop, get_or, set, length-set, drop_of_length-le, length-append, length-drop}
use lib.Seq.{take_all, drop-drop, drop-cons, take_at, drop_at, set_at, take-suc, take-length, append_snoc, length-take-le}
use native.Mathlib.Numerals.{add-one}
use borrow.Rule.Slice.PartMut.{put_mid, same_len_mid}
use Rattle.form.specs.Writes.{Wrote}

-- what is lent, and what the whole is once the part is back at ys
abbrev pub lent : List ℕ → ℕ → List ℕ
lent xs a = take (length xs - a) (drop a xs)

abbrev pub back : List ℕ → ℕ → List ℕ → List ℕ
back xs a ys = put_mid a (length xs - a) xs ys

module _ (xs : List ℕ) (a : ℕ) where
  lent_is : lent xs a ≡ drop a xs
  lent_is = take_all (length xs - a) (drop a xs) (simp length-drop (omega arith))

  pub lent_length : length (lent xs a) ≡ length xs - a
  lent_length = ap (λ (l : List ℕ). length l) lent_is ∙ length-drop a xs

  pub back_is : (ys : List ℕ) → back xs a ys ≡ take a xs ++ ys
  back_is ys =
      ap (λ (z : List ℕ). take a xs ++ (ys ++ z)) (drop_of_length-le (drop a xs) {i = length xs - a} (simp length-drop (omega arith)))
      ∙ ap (λ (z : List ℕ). take a xs ++ z) (append-nil ys)

  pub back_length : (ys : List ℕ) → length ys ≡ length (lent xs a) → length (back xs a ys) ≡ length xs
  back_length ys e = same_len_mid a (length xs - a) xs ys e

-- ---- bytes put at the front

pub one_set : (out : List ℕ) (v : ℕ) → 0 < length out → Wrote (v ∷ []) 1 out (set out 0 v)
one_set [] v h = absurd (omega arith)
one_set (x ∷ out) v h = record { count = refl; bytes = refl }

pub two_set : (out : List ℕ) (v w : ℕ) → 1 < length out → Wrote (v ∷ w ∷ []) 2 out (set (set out 0 v) 1 w)
two_set [] v w h = absurd (omega arith)
two_set (x ∷ []) v w h = absurd (omega arith)
two_set (x ∷ y ∷ out) v w h = record { count = refl; bytes = refl }

pub wrote_length : (p out out₁ : List ℕ) (a : ℕ) → Wrote p a out out₁ → length p ≤ length out → length out₁ ≡ length out
wrote_length p out out₁ a d h =
    ap (λ (z : List ℕ). length z) d.bytes ∙ omega (arith, length-append p (drop (length p) out), length-drop (length p) out)

-- p is at the front, and w was written into what remains
pub then_wrote : (p w out out₁ ys : List ℕ) (a k : ℕ) → Wrote p a out out₁ → Wrote w k (lent out₁ a) ys → length p + length w ≤ length out → Wrote (p ++ w) (a + k) out (back out₁ a ys)
then_wrote p w out out₁ ys a k d e h =
    let q : List ℕ = drop (length p) out in
    let n : length p ≡ a = sym d.count in
    let t : take a out₁ ≡ p = ap (take a) d.bytes ∙ take_at p q a n in
    let u : drop a out₁ ≡ q = ap (drop a) d.bytes ∙ drop_at p q a n in
    let z : length (p ++ w) ≡ length p + length w = length-append p w in
    record {
      count = omega (arith, d.count, e.count);
      bytes =
          back_is out₁ a ys
          ∙ ap₂ (λ (x y : List ℕ). x ++ y) t (e.bytes ∙ ap (λ (y : List ℕ). w ++ y) (ap (drop (length w)) (lent_is out₁ a ∙ u) ∙ drop-drop (length w) (length p) out))
          ∙ sym (append_assoc p w (drop (length p + length w) out))
          ∙ ap (λ (y : ℕ). (p ++ w) ++ drop y out) (sym z);
    }

-- ---- a copy, with the front of d replaced by i of s

pub record Copying (s d₀ d : List ℕ) (i : ℕ) : Type 0 where
  pub within : i ≤ length s
  pub fits : length s ≤ length d₀
  pub long : length d ≡ length d₀
  pub is : d ≡ take i s ++ drop i d₀

pub copy_starts : (s d : List ℕ) → length s ≤ length d → Copying s d d 0
copy_starts s d h = record { within = omega arith; fits = h; long = refl; is = refl }

pub copy_turn : (s d₀ d : List ℕ) (i : ℕ) → Copying s d₀ d i → i < length s → Copying s d₀ (set d i (get_or s i 0)) (i + 1)
copy_turn s d₀ d i c h = record {
  within = omega arith;
  fits = c.fits;
  long = length-set d i (get_or s i 0) ∙ c.long;
  is =
      let k : i < length d₀ = omega (arith, c.fits) in
      let n : length (take i s) ≡ i = length-take-le i s (omega arith) in
      rw (c.is, drop-cons d₀ i 0 k, set_at (take i s) (get_or d₀ i 0) (drop (suc i) d₀) (get_or s i 0) i n, add-one, take-suc s i 0 h)
      (sym (append_snoc (take i s) (get_or s i 0) (drop (suc i) d₀)));
}

pub copy_ends : (s d₀ d : List ℕ) (i : ℕ) → Copying s d₀ d i → length s ≤ i → d ≡ s ++ drop (length s) d₀
copy_ends s d₀ d i c h =
    let e : i ≡ length s = omega (arith, c.within) in
    c.is ∙ rw (e, take-length s)

pub copy_long : (s d₀ d : List ℕ) (i : ℕ) → Copying s d₀ d i → length d ≡ length d₀
copy_long s d₀ d i c = c.long
