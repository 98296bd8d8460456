-- The turns of a number: how many, each one, and where they stand in its bytes. Assumes nothing.
use Prim.Native.Nat.{ℕ, zero, suc, ◌+◌, ◌-◌, ◌*◌, ◌/◌, ◌%◌, ◌^◌, ◌≤◌, ◌<◌}
use mathlib.Core.Path.{◌≡◌, refl, sym, ◌∙◌, ap}
use mathlib.Core.List.{List, [], ◌∷◌}
use mathlib.Core.Bool.{Bool, false}
use native.Mathlib.Nat.{pow-succ', zero-div, div-one, div-div-eq-div-mul, le-div_iff_mul-le, div-lt_iff_lt-mul}
use native.Mathlib.Numerals.{add-one}
use native.Mathlib.Omega.{arith}
use lib.Arith.{digits_div}
use lib.Bits.{bit_and, and_mask}
use lib.Count.{count_leading_zeros, leading_top}
use lib.Dec.{leb, eqb}
use lib.ListN.{length, take, drop, get_or, length-drop}
use lib.Pow.{pow-add, pow_pos, field, mod-mod-pow}
use lib.Seq.{drop-cons}
use mir.Syntax.{w8, w64}
use mir.Val.{Fits}
use Rattle.meaning.proofs.Tests.{on_bool, leb_no, leb_true}
use Rattle.meaning.specs.Number.{turns_in, turns, number, number_from}
use Rattle.paths.specs.Wide.{Shortest}
use Rattle.paths.proofs.ShortestLaws.{shortest_first, shortest_number, shortest_zero}
use Rattle.paths.proofs.NumberLaws.{Bytes, number_lt, bytes_drop, split_at, upto_suc, powers}

-- any count that is large enough gives the same turns
turns_any : (k j n : ℕ) → n ≤ k → n ≤ j → turns_in k n ≡ turns_in j n
unfolding turns_in
turns_any zero zero n h i = refl
turns_any zero (suc j) n h i = let e : n ≡ 0 = omega arith in rw e
turns_any (suc k) zero n h i = let e : n ≡ 0 = omega arith in rw e
turns_any (suc k) (suc j) n h i =
    on_bool (leb n 1)
    (λ e. rw (e, turns_in))
    (λ e. rw (e, turns_in) (ap (eqb (n % 2) 1 ∷◌) (turns_any k j (n / 2) (omega arith) (omega arith))))

pub turns_none : (n : ℕ) → n ≤ 1 → turns n ≡ []
unfolding turns turns_in
turns_none zero h = refl
turns_none (suc k) h = rw (leb_true (suc k) 1 h, turns_in)

pub turns_step : (n : ℕ) → 2 ≤ n → turns n ≡ eqb (n % 2) 1 ∷ turns (n / 2)
unfolding turns
turns_step zero h = absurd (omega arith)
turns_step (suc k) h = rw (leb_no (suc k) 1 h, turns_in) (ap (eqb (suc k % 2) 1 ∷◌) (turns_any k (suc k / 2) (suc k / 2) (omega arith) (omega arith)))

-- ---- how many

pub count_none : (n : ℕ) → n ≤ 1 → length (turns n) ≡ 0
count_none n h = ap length (turns_none n h)

pub count_step : (n : ℕ) → 2 ≤ n → length (turns n) ≡ suc (length (turns (n / 2)))
count_step n h = ap length (turns_step n h)

-- a number is small or not
pub small_or : {X : Type 0} (n : ℕ) → (n ≤ 1 → X) → (2 ≤ n → X) → X
small_or zero f g = f (omega arith)
small_or (suc zero) f g = f (omega arith)
small_or (suc (suc n)) f g = g (omega arith)

pub half_again : (n k : ℕ) → n / 2 ^ suc k ≡ n / 2 / 2 ^ k
half_again n k = ap (n /◌) (pow-succ' 2 k) ∙ sym (div-div-eq-div-mul n 2 (2 ^ k))

pub count_after : (n k : ℕ) → 1 ≤ n / 2 ^ k → length (turns n) ≡ k + length (turns (n / 2 ^ k))
count_after n zero h = rw (div-one n) (omega arith)
count_after n (suc k) h =
    let m : 1 ≤ n / 2 / 2 ^ k = rw (half_again n k) at h in
    let i : length (turns (n / 2)) ≡ k + length (turns (n / 2 / 2 ^ k)) = count_after (n / 2) k m in
    small_or n
    (λ l.
    let z : n / 2 ≡ 0 = omega arith in
    let o : n / 2 / 2 ^ k ≡ 0 = ap (◌/ 2 ^ k) z ∙ zero-div (2 ^ k) in
    absurd (omega arith))
    (λ l. let s : length (turns n) ≡ suc (length (turns (n / 2))) = count_step n l in rw (half_again n k) (omega arith))

pub count_below : (k n : ℕ) → n < 2 ^ suc k → length (turns n) ≤ k
count_below zero n h = let e : length (turns n) ≡ 0 = count_none n (omega arith) in omega arith
count_below (suc k) n h =
    small_or n
    (λ l. let e : length (turns n) ≡ 0 = count_none n l in omega arith)
    (λ l.
    let e : length (turns n) ≡ suc (length (turns (n / 2))) = count_step n l in
    let p : 2 ^ suc (suc k) ≡ 2 * 2 ^ suc k = pow-succ' 2 (suc k) in
    let g : length (turns (n / 2)) ≤ k = count_below k (n / 2) (omega arith) in
    omega arith)

pub count_most : (k n : ℕ) → n < 2 ^ k → length (turns n) ≤ k
count_most k n h = let p : 2 ^ suc k ≡ 2 * 2 ^ k = pow-succ' 2 k in count_below k n (omega arith)

count_byte : (m b : ℕ) → 1 ≤ m → b < 256 → length (turns (m * 256 + b)) ≡ 8 + length (turns m)
count_byte m b h l =
    let e : (m * 256 + b) / 2 ^ 8 ≡ m = omega arith in
    count_after (m * 256 + b) 8 (rw e h) ∙ rw e

count_from : (m : ℕ) (bs : List ℕ) → 1 ≤ m → Bytes bs → length (turns (number_from m bs)) ≡ length bs * 8 + length (turns m)
unfolding number_from
count_from m [] h l = omega arith
count_from m (b ∷ bs) h l =
    let e : length (turns (m * 256 + b)) ≡ 8 + length (turns m) = count_byte m b h (l 0).fits in
    let f = count_from (m * 256 + b) bs (omega arith) (λ i. l (suc i)) in
    f ∙ omega arith

pub count_number : (x : ℕ) (bs : List ℕ) → 1 ≤ x → Bytes bs → length (turns (number (x ∷ bs))) ≡ length bs * 8 + length (turns x)
unfolding number number_from
count_number x bs h l = let e : 0 * 256 + x ≡ x = omega arith in rw e (count_from x bs h l)

-- ---- each one

pub turn_bit : (i n : ℕ) → i < length (turns n) → get_or (turns n) i false ≡ eqb (n / 2 ^ i % 2) 1
turn_bit zero n h =
    small_or n
    (λ l. let e = count_none n l in absurd (omega arith))
    (λ l. rw (turns_step n l, div-one n))
turn_bit (suc i) n h =
    small_or n
    (λ l. let e = count_none n l in absurd (omega arith))
    (λ l. let e = count_step n l in rw (turns_step n l, half_again n i) (turn_bit i (n / 2) (omega arith)))

-- the walk: one turn, and then those from the next index on
pub next_turn : (ds : List Bool) (i : ℕ) (r : Bool) → i < length ds → r ≡ get_or ds i false → drop i ds ≡ r ∷ drop (i + 1) ds
next_turn ds i r h e = rw (add-one, drop-cons ds i false, e)

-- ---- in the bytes

pub turn_within : (b : List ℕ) (i : ℕ) → Bytes b → i < length (turns (number b)) → i / 8 < length b
turn_within b i h l =
    let k : length (turns (number b)) ≤ 8 * length b = count_most (8 * length b) (number b) (rw (powers (length b)) at (number_lt b h)) in
    omega arith

low_bit : (n x k : ℕ) → k < 8 → n % 256 ≡ x → n / 2 ^ k % 2 ≡ x / 2 ^ k % 2
low_bit n x k h e =
    let m : 8 ≡ (7 - k) + (1 + k) = omega arith in
    let r : n % 2 ^ (1 + k) ≡ x % 2 ^ (1 + k) = sym (mod-mod-pow n (7 - k) (1 + k)) ∙ ap (λ w. n % 2 ^ w % 2 ^ (1 + k)) (sym m) ∙ ap (◌% 2 ^ (1 + k)) e in
    sym (field n 1 k) ∙ ap (◌/ 2 ^ k) r ∙ field x 1 k

-- the byte that has turn i
pub byte_bit : (b : List ℕ) (i : ℕ) → Bytes b → i / 8 < length b → number b / 2 ^ i % 2 ≡ get_or b (length b - 1 - i / 8) 0 / 2 ^ (i % 8) % 2
byte_bit b i h l =
    let m = length b - 1 - i / 8 in
    let j : length b - (m + 1) ≡ i / 8 = omega arith in
    let f : number b ≡ number (take (m + 1) b) * 256 ^ (i / 8) + number (drop (m + 1) b) = split_at b (m + 1) ∙ rw j in
    let low : number (drop (m + 1) b) < 256 ^ (i / 8) = rw (length-drop, j) at (number_lt (drop (m + 1) b) (bytes_drop (m + 1) b h)) in
    let d : number b / 256 ^ (i / 8) ≡ number (take (m + 1) b) = ap (◌/ 256 ^ (i / 8)) f ∙ digits_div (number (take (m + 1) b)) low in
    let u : number (take (m + 1) b) ≡ number (take m b) * 256 + get_or b m 0 = upto_suc b m (omega arith) in
    let x : get_or b m 0 < 256 = (h m).fits in
    let e : 8 * (i / 8) + i % 8 ≡ i = omega arith in
    let p : 2 ^ i ≡ 256 ^ (i / 8) * 2 ^ (i % 8) = ap (2 ^◌) (sym e) ∙ pow-add 2 (8 * (i / 8)) (i % 8) ∙ ap (◌* 2 ^ (i % 8)) (sym (powers (i / 8))) in
    let q : number b / 2 ^ i ≡ number (take (m + 1) b) / 2 ^ (i % 8) = ap (number b /◌) p ∙ sym (div-div-eq-div-mul (number b) (256 ^ (i / 8)) (2 ^ (i % 8))) ∙ ap (◌/ 2 ^ (i % 8)) d in
    ap (◌% 2) q ∙ low_bit (number (take (m + 1) b)) (get_or b m 0) (i % 8) (omega arith) (omega arith)

-- ---- the functions of turns.rs

pub count_zero : {b : List ℕ} {z : ℕ} → Shortest b z → z ≡ length b → 0 ≡ length (turns (number b))
count_zero s e = let n = shortest_zero s e in sym (count_none _ (omega arith))

pub count_some : {b : List ℕ} {z t : ℕ} → Shortest b z → (z ≡ length b → ⊥) → t ≡ length (turns (get_or b z 0)) → Bytes b → (length b - 1 - z) * 8 + t ≡ length (turns (number b))
count_some {b} {z} {t} s x e h =
    let w = s.within in
    let l : z < length b = omega arith in
    let d = length-drop (suc z) b in
    let c : length (turns (number (get_or b z 0 ∷ drop (suc z) b))) ≡ length (drop (suc z) b) * 8 + length (turns (get_or b z 0)) =
    count_number (get_or b z 0) (drop (suc z) b) (shortest_first s l) (bytes_drop (suc z) b h) in
    rw (shortest_number s, drop-cons b z 0 l) (omega arith)

pub count_fits : (b : List ℕ) (z t : ℕ) → t ≡ length (turns (get_or b z 0)) → Bytes b → length b < 2 ^ 60 → Fits w64 ((length b - 1 - z) * 8 + t)
count_fits b z t e h l = let c = count_most 8 (get_or b z 0) (h z).fits in record { fits = omega arith }

pub masked : (x k : ℕ) → eqb (bit_and (x / 2 ^ k) 1) 1 ≡ eqb (x / 2 ^ k % 2) 1
masked x k = ap (λ y. eqb y 1) (and_mask (x / 2 ^ k) 1)

pub turn_here : (b : List ℕ) (i : ℕ) {r : Bool} → r ≡ eqb (get_or b (length b - 1 - i / 8) 0 / 2 ^ (i % 8) % 2) 1 → Bytes b → i < length (turns (number b))
    → r ≡ get_or (turns (number b)) i false
turn_here b i e h l = e ∙ ap (λ x. eqb x 1) (sym (byte_bit b i h (turn_within b i h l))) ∙ sym (turn_bit i (number b) l)

-- ---- below_top

-- the place of the top bit is the count of the bits below it
count_top : (x j : ℕ) → 2 ^ j ≤ x → x < 2 ^ suc j → length (turns x) ≡ j
count_top x j h l =
    let a : 1 ≤ x / 2 ^ j = (le-div_iff_mul-le (pow_pos j)).1 (omega arith) in
    let p : 2 ^ suc j ≡ 2 * 2 ^ j = pow-succ' 2 j in
    let b : x / 2 ^ j < 2 = (div-lt_iff_lt-mul (pow_pos j)).1 (omega arith) in
    let c = count_after x j a in
    let z = count_none (x / 2 ^ j) (omega arith) in
    omega arith

pub top_none : {x : ℕ} → x ≡ 0 → 0 ≡ length (turns x)
top_none {x} e = sym (count_none x (omega arith))

pub top_some : {x : ℕ} → (x ≡ 0 → ⊥) → Fits w8 x → 7 - count_leading_zeros 8 x ≡ length (turns x)
top_some {x} h f =
    let (j, e, l, m) = leading_top 8 x (omega arith) f.fits in
    let c : length (turns x) ≡ j = count_top x j l m in
    omega arith
