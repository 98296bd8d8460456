-- Big-endian numbers: by their front, by their back, and their bounds. Assumes nothing.
use Prim.Native.Nat.{ℕ, zero, suc, ◌+◌, ◌-◌, ◌*◌, ◌^◌, ◌≤◌, ◌<◌}
use mathlib.Core.Path.{◌≡◌, refl, sym, ◌∙◌, ap, ap₂}
use mathlib.Core.List.{List, [], ◌∷◌, ◌++◌}
use native.Mathlib.Nat.{pow-succ'}
use native.Mathlib.Numerals.{add-one}
use native.Mathlib.Omega.{arith}
use borrow.Author.Tests.{ltb-true, ltb-false}
use lib.Arith.{digits_lt}
use lib.Dec.{ltb}
use lib.Pow.{pow-add}
use lib.ListN.{take-append-drop, length, take, drop, get_or, set, replicate, length-drop, length-set}
use lib.Seq.{take-suc, drop-cons, take-suc-set, take-length, drop-length, drop-set-lt, get_or-set_same, get_or-drop}
use mir.Syntax.{w8}
use mir.Val.{Fits}
use Rattle.meaning.proofs.Tests.{on_bool}
use Rattle.meaning.specs.Number.{number_from, number}

-- every element is a byte, in the words in which the checker knows it of a slice
abbrev pub Bytes : List ℕ → Type 0
Bytes bs = (i : ℕ) → Fits w8 (get_or bs i 0)

pub number_from_add : (n : ℕ) (bs : List ℕ) → number_from n bs ≡ n * 256 ^ length bs + number bs
unfolding number_from number
number_from_add n [] = omega arith
number_from_add n (b ∷ bs) =
    let e : number_from (n * 256 + b) bs ≡ (n * 256 + b) * 256 ^ length bs + number bs = number_from_add (n * 256 + b) bs in
    let f : number_from (0 * 256 + b) bs ≡ (0 * 256 + b) * 256 ^ length bs + number bs = number_from_add (0 * 256 + b) bs in
    let g : n * 256 ^ suc (length bs) ≡ n * (256 * 256 ^ length bs) = ap (n *◌) (pow-succ' 256 (length bs)) in
    omega arith

pub number_cons : (b : ℕ) (bs : List ℕ) → number (b ∷ bs) ≡ b * 256 ^ length bs + number bs
unfolding number number_from
number_cons b bs = let e : number_from (0 * 256 + b) bs ≡ (0 * 256 + b) * 256 ^ length bs + number bs = number_from_add (0 * 256 + b) bs in omega arith

pub number_from_append : (n : ℕ) (xs ys : List ℕ) → number_from n (xs ++ ys) ≡ number_from (number_from n xs) ys
unfolding number_from
number_from_append n [] ys = refl
number_from_append n (x ∷ xs) ys = number_from_append (n * 256 + x) xs ys

pub number_append : (xs ys : List ℕ) → number (xs ++ ys) ≡ number xs * 256 ^ length ys + number ys
unfolding number
number_append xs ys = number_from_append 0 xs ys ∙ number_from_add (number xs) ys

number_snoc : (xs : List ℕ) (y : ℕ) → number (xs ++ (y ∷ [])) ≡ number xs * 256 + y
unfolding number number_from
number_snoc xs y = number_from_append 0 xs (y ∷ [])

pub number_lt : (bs : List ℕ) → Bytes bs → number bs < 256 ^ length bs
unfolding number number_from
number_lt [] h = omega arith
number_lt (b ∷ bs) h =
    let l : b < 256 = (h 0).fits in
    let k : number bs < 256 ^ length bs = number_lt bs (λ i. h (suc i)) in
    rw (number_cons b bs, pow-succ' 256 (length bs)) (digits_lt l k)

pub bytes_drop : (k : ℕ) (bs : List ℕ) → Bytes bs → Bytes (drop k bs)
bytes_drop k bs h i = rw (get_or-drop) (h (k + i))

-- ---- by the front

pub upto_suc : (bs : List ℕ) (i : ℕ) → i < length bs → number (take (i + 1) bs) ≡ number (take i bs) * 256 + get_or bs i 0
upto_suc bs i h = rw (add-one, take-suc bs i 0) (number_snoc (take i bs) (get_or bs i 0))

pub upto_set : (bs : List ℕ) (i v : ℕ) → i < length bs → number (take (i + 1) (set bs i v)) ≡ number (take i bs) * 256 + v
upto_set bs i v h = rw (add-one, take-suc-set bs i v) (number_snoc (take i bs) v)

pub upto_all : (bs : List ℕ) (n : ℕ) → length bs ≡ n → number (take n bs) ≡ number bs
upto_all bs n e = rw (← e, take-length)

pub upto_zeros : (i n : ℕ) → number (take i (replicate n 0)) ≡ 0
unfolding number number_from
upto_zeros zero n = refl
upto_zeros (suc i) zero = refl
upto_zeros (suc i) (suc n) = upto_zeros i n

-- ---- by the back

pub from_at : (bs : List ℕ) (i : ℕ) → i < length bs → number (drop i bs) ≡ get_or bs i 0 * 256 ^ (length bs - (i + 1)) + number (drop (i + 1) bs)
from_at bs i h =
    rw (drop-cons bs i 0)
    (number_cons (get_or bs i 0) (drop (suc i) bs) ∙ rw (length-drop, add-one))

pub from_set : (bs : List ℕ) (i v : ℕ) → i < length bs → number (drop i (set bs i v)) ≡ v * 256 ^ (length bs - (i + 1)) + number (drop (i + 1) bs)
from_set bs i v h =
    let l : i < length (set bs i v) = rw (length-set) h in
    from_at (set bs i v) i l
    ∙ ap₂ ◌+◌ (ap₂ (λ x n. x * 256 ^ (n - (i + 1))) (get_or-set_same bs i v 0 h) (length-set bs i v)) (ap number (drop-set-lt (i + 1) bs i v (omega arith)))

pub from_end : (bs : List ℕ) (n : ℕ) → length bs ≡ n → number (drop n bs) ≡ 0
unfolding number number_from
from_end bs n e = rw (← e, drop-length)

-- ---- both

pub split_at : (bs : List ℕ) (i : ℕ) → number bs ≡ number (take i bs) * 256 ^ (length bs - i) + number (drop i bs)
split_at bs i = ap number (sym (take-append-drop i bs)) ∙ number_append (take i bs) (drop i bs) ∙ rw (length-drop)

pub powers : (j : ℕ) → 256 ^ j ≡ 2 ^ (8 * j)
powers zero = refl
powers (suc j) =
    let e : 8 * suc j ≡ 8 + 8 * j = omega arith in
    pow-succ' 256 j ∙ ap (256 *◌) (powers j) ∙ sym (ap (2 ^◌) e ∙ pow-add 2 8 (8 * j))

-- to go by cases of an order
pub on_lt : {X : Type 0} (m n : ℕ) → (m < n → X) → (n ≤ m → X) → X
on_lt m n f g = on_bool (ltb m n) (λ e. f (ltb-true m n e)) (λ e. g (ltb-false m n e))
