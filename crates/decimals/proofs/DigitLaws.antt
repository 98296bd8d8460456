-- Digits one at a time: the test, a power of ten, and a chunk's number. Assumes nothing.
use Prim.Native.Nat.{ℕ, ◌+◌, ◌-◌, ◌*◌, ◌^◌, ◌≤◌, ◌<◌}
use mathlib.Core.Path.{◌≡◌, refl, sym, ◌∙◌, ap}
use mathlib.Core.List.{List, [], ◌∷◌}
use mathlib.Core.Bool.{Bool, true, false, ◌&&◌, not}
use native.Mathlib.Nat.{pow-succ', pow-le-pow_right}
use native.Mathlib.Numerals.{add-one}
use native.Mathlib.Omega.{arith}
use borrow.Author.Tests.{eqb-true}
use lib.Dec.{leb, eqb}
use Rattle.std.specs.List.{list_all}
use Rattle.std.specs.Char.{is_ascii_digit}
use lib.ListN.{length, drop, get_or}
use lib.Seq.{drop-cons}
use mir.Syntax.{w64}
use mir.Val.{Fits}
use Rattle.meaning.proofs.Tests.{on_bool, not_false, and_inv, leb_yes}
use Rattle.decimals.specs.Digits.{digits, some_digits, value_from, Chunk}

-- ---- the test

-- what stands at i, and what comes after it
pub next : (w : List ℕ) (i : ℕ) → i < length w → drop i w ≡ get_or w i 0 ∷ drop (i + 1) w
next w i h = drop-cons w i 0 h ∙ rw (← add-one i)

digits_inv : (c : ℕ) (cs : List ℕ) → digits (c ∷ cs) ≡ true → (0x30 ≤ c) × ((c ≤ 0x39) × (digits cs ≡ true))
unfolding digits
digits_inv c cs h =
    on_bool (leb 0x30 c && leb c 0x39)
    (λ e. let (a, b) = and_inv (leb 0x30 c) (leb c 0x39) e in (leb_yes 0x30 c a, (leb_yes c 0x39 b, rw (e, digits) at h)))
    (λ e. not_false (rw (e, digits) at h))

pub digits_at : (w : List ℕ) (i : ℕ) → i < length w → digits (drop i w) ≡ true
    → (0x30 ≤ get_or w i 0) × ((get_or w i 0 ≤ 0x39) × (digits (drop (i + 1) w) ≡ true))
digits_at w i h d = digits_inv (get_or w i 0) (drop (i + 1) w) (rw (next w i h) at d)

pub digits_all : (w : List ℕ) → list_all is_ascii_digit w ≡ digits w
unfolding digits
digits_all [] = refl
digits_all (c ∷ cs) = on_bool (leb 0x30 c && leb c 0x39) (λ e. rw (e, digits) (digits_all cs)) (λ e. rw (e, digits))

pub some_none : (w : List ℕ) {b : Bool} → b ≡ eqb (length w) 0 → b ≡ true → not b ≡ some_digits w
unfolding some_digits
some_none [] e h = ap not e
some_none (c ∷ cs) e h = let z : length (c ∷ cs) ≡ 0 = eqb-true _ _ (sym e ∙ h) in absurd (omega arith)

pub some_all : (w : List ℕ) {b r : Bool} → b ≡ eqb (length w) 0 → b ≡ false → r ≡ list_all is_ascii_digit w → r ≡ some_digits w
unfolding some_digits
some_all [] e h l = not_false (sym h ∙ e)
some_all (c ∷ cs) e h l = l ∙ digits_all (c ∷ cs)

-- ---- powers of ten

pub ten_suc : (i : ℕ) → 10 ^ (i + 1) ≡ 10 * 10 ^ i
ten_suc i = rw (add-one i) (pow-succ' 10 i)

pub ten_most : (k : ℕ) → k ≤ 16 → 10 ^ k ≤ 10 ^ 16
ten_most k h = pow-le-pow_right (omega arith) h

-- ---- a chunk

pub record Chunked (w : List ℕ) (at end n i : ℕ) : Type 0 where
  pub low : at ≤ i
  pub high : i ≤ end
  pub some : digits (drop i w) ≡ true
  pub done : Chunk w at i n

value_next : (n c : ℕ) (cs : List ℕ) → value_from n (c ∷ cs) ≡ value_from (n * 10 + (c - 0x30)) cs
unfolding value_from
value_next n c cs = refl

later_ten : (at i : ℕ) → at ≤ i → 10 ^ (i + 1 - at) ≡ 10 * 10 ^ (i - at)
later_ten at i h = let e : i + 1 - at ≡ i - at + 1 = omega arith in ap (10 ^◌) e ∙ ten_suc (i - at)

-- what one digit more makes of a chunk
grows : (v p q n c : ℕ) → q ≡ 10 * p → (v * p + n) * 10 + c ≡ v * q + (n * 10 + c)
grows v p q n c e = rw e (omega arith)

module _ {w : List ℕ} {at end n i : ℕ} (d : Chunked w at end n i) where
  pub chunk_low : i < end → end ≤ length w → 0x30 ≤ get_or w i 0
  chunk_low h l = let (a, (b, e)) = digits_at w i (omega arith) d.some in a

  pub chunk_high : i < end → end ≤ length w → get_or w i 0 ≤ 0x39
  chunk_high h l = let (a, (b, e)) = digits_at w i (omega arith) d.some in b

  -- the digit's value, as the code reads it
  pub chunk_digit : {x : ℕ} → x ≡ get_or w i 0 - 0x30 → i < end → end ≤ length w → x < 10
  chunk_digit e h l = let a = chunk_high h l in omega arith

  small_next : {x : ℕ} → i < end → x < 10 → n * 10 + x < 10 ^ (i + 1 - at)
  small_next h l = let s = d.done.small in let e = later_ten at i d.low in omega arith

  chunk_most : i < end → end ≤ at + 16 → 10 ^ (i + 1 - at) ≤ 10 ^ 16
  chunk_most h l = let k = d.low in ten_most (i + 1 - at) (omega arith)

  pub chunk_times : i < end → end ≤ at + 16 → Fits w64 (n * 10)
  chunk_times h l = let a = small_next {x = 0} h (omega arith) in let b = chunk_most h l in record { fits = omega arith }

  pub chunk_plus : {x : ℕ} → i < end → end ≤ at + 16 → x < 10 → Fits w64 (n * 10 + x)
  chunk_plus {x} h l k = let a = small_next {x = x} h k in let b = chunk_most h l in record { fits = omega arith }

  pub chunk_turn : {x : ℕ} → x ≡ get_or w i 0 - 0x30 → x < 10 → i < end → end ≤ length w → Chunked w at end (n * 10 + x) (i + 1)
  chunk_turn {x} e k h l =
      let low = d.low in
      let (a, (b, more)) = digits_at w i (omega arith) d.some in
      record {
        low = omega arith;
        high = omega arith;
        some = more;
        done = record {
          small = small_next {x = x} h k;
          reads = λ v.
              ap (λ y. value_from y (drop (i + 1) w)) (sym (grows v (10 ^ (i - at)) (10 ^ (i + 1 - at)) n x (later_ten at i low)) ∙ rw e)
              ∙ sym (value_next (v * 10 ^ (i - at) + n) (get_or w i 0) (drop (i + 1) w))
              ∙ sym (ap (value_from (v * 10 ^ (i - at) + n)) (next w i (omega arith)))
              ∙ d.done.reads v;
        };
      }
