-- Two digits for each byte, written one byte after the other. Assumes nothing.
use mathlib.Core.Path.{◌≡◌, refl, sym, ◌∙◌, ap}
use mathlib.Core.List.{List, [], ◌∷◌, ◌++◌, append_assoc}
use Prim.Native.Nat.{ℕ, suc, ◌+◌, ◌*◌, ◌/◌, ◌%◌, ◌<◌, ◌≤◌}
use native.Mathlib.Omega.{arith}
use native.Mathlib.Numerals.{add-one}
use lib.ListN.{length, take, drop, get_or, set, length-set}
use lib.Seq.{drop-cons, take-suc, length-take-le}
use Rattle.notation.specs.Words.{hex_digit, hex}

-- ---- digits

pub hex_length : (b : List ℕ) → length (hex b) ≡ 2 * length b
unfolding hex
hex_length [] = refl
hex_length (x ∷ b) = omega (arith, hex_length b)

hex_snoc : (b : List ℕ) (x : ℕ) → hex (b ++ (x ∷ [])) ≡ hex b ++ (hex_digit (x / 16) ∷ hex_digit (x % 16) ∷ [])
unfolding hex
hex_snoc [] x = refl
hex_snoc (y ∷ b) x = ap (λ (z : List ℕ). hex_digit (y / 16) ∷ hex_digit (y % 16) ∷ z) (hex_snoc b x)

set_two : (xs ys : List ℕ) (a b h l : ℕ) → set (set (xs ++ (a ∷ b ∷ ys)) (length xs) h) (suc (length xs)) l ≡ xs ++ (h ∷ l ∷ ys)
set_two [] ys a b h l = refl
set_two (x ∷ xs) ys a b h l = ap (λ (z : List ℕ). x ∷ z) (set_two xs ys a b h l)

-- the first i bytes of s stand in d as digits
pub record Spelling (s d₀ d : List ℕ) (i : ℕ) : Type 0 where
  pub within : i ≤ length s
  pub fits : 2 * length s ≤ length d₀
  pub few : length s ≤ 256
  pub long : length d ≡ length d₀
  pub is : d ≡ hex (take i s) ++ drop (2 * i) d₀

pub spell_starts : (s d : List ℕ) → 2 * length s ≤ length d → length s ≤ 256 → Spelling s d d 0
unfolding hex
spell_starts s d h k = record { within = omega arith; fits = h; few = k; long = refl; is = refl }

module _ (s d₀ d : List ℕ) (i : ℕ) (c : Spelling s d₀ d i) (h : i < length s) where
  front : length (hex (take i s)) ≡ 2 * i
  front = hex_length (take i s) ∙ ap (λ (k : ℕ). 2 * k) (length-take-le i s (omega arith))

  rest : drop (2 * i) d₀ ≡ get_or d₀ (2 * i) 0 ∷ get_or d₀ (suc (2 * i)) 0 ∷ drop (2 * (i + 1)) d₀
  rest =
      let k : 2 * i < length d₀ = omega (arith, c.fits) in
      let l : suc (2 * i) < length d₀ = omega (arith, c.fits) in
      let z : 2 * (i + 1) ≡ suc (suc (2 * i)) = omega arith in
      drop-cons d₀ (2 * i) 0 k ∙ ap (λ (y : List ℕ). get_or d₀ (2 * i) 0 ∷ y) (drop-cons d₀ (suc (2 * i)) 0 l ∙ rw z)

  pub spell_turn : (x y : ℕ) → y ≡ hex_digit (get_or s i 0 % 16) → x ≡ hex_digit (get_or s i 0 / 16) → Spelling s d₀ (set (set d (2 * i) x) (2 * i + 1) y) (i + 1)
  spell_turn x y ey ex = record {
    within = omega arith;
    fits = c.fits;
    few = c.few;
    long = length-set (set d (2 * i) x) (2 * i + 1) y ∙ length-set d (2 * i) x ∙ c.long;
    is =
        let p : List ℕ = hex (take i s) in
        let q : List ℕ = drop (2 * (i + 1)) d₀ in
        let z : 2 * i + 1 ≡ suc (2 * i) = omega arith in
        ap (λ (w : List ℕ). set (set w (2 * i) x) (2 * i + 1) y) (c.is ∙ ap (λ (w : List ℕ). p ++ w) rest)
        ∙ ap (λ (k : ℕ). set (set (p ++ (get_or d₀ (2 * i) 0 ∷ get_or d₀ (suc (2 * i)) 0 ∷ q)) (2 * i) x) k y) z
        ∙ ap (λ (k : ℕ). set (set (p ++ (get_or d₀ (2 * i) 0 ∷ get_or d₀ (suc (2 * i)) 0 ∷ q)) k x) (suc k) y) (sym front)
        ∙ set_two p q (get_or d₀ (2 * i) 0) (get_or d₀ (suc (2 * i)) 0) x y
        ∙ sym (append_assoc p (x ∷ y ∷ []) q)
        ∙ ap (λ (w : List ℕ). w ++ q) (spelled x y ey ex);
  }
    where
      spelled : (x y : ℕ) → y ≡ hex_digit (get_or s i 0 % 16) → x ≡ hex_digit (get_or s i 0 / 16) → hex (take i s) ++ (x ∷ y ∷ []) ≡ hex (take (i + 1) s)
      spelled x y ey ex = rw (ey, ex, add-one, take-suc s i 0 h) (sym (hex_snoc (take i s) (get_or s i 0)))
