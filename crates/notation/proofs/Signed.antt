-- The bytes of a decimal number have its value, as `number_from_u8` reads them, and no fewer bytes have. Assumes nothing.
use Prim.Native.Nat.{ℕ, zero, suc, ◌+◌, ◌-◌, ◌*◌, ◌/◌, ◌%◌, ◌^◌, ◌≤◌, ◌<◌}
use mathlib.Core.Path.{◌≡◌, refl, sym, ◌∙◌, ap}
use mathlib.Core.List.{List, [], ◌∷◌}
use mathlib.Core.Bool.{true, false}
use native.Mathlib.Nat.{pow-succ', mul-le-mul_right, pow-le-pow_right}
use native.Mathlib.Omega.{arith}
use borrow.Author.Tests.{leb-true, leb-false, le-leb}
use lib.Dec.{leb}
use lib.ListN.{length}
use Rattle.meaning.specs.Number.{Signed, plus, minus, number_from, number, negative, number_from_u8, bytes_onto, bytes_of}
use Rattle.meaning.specs.Form.{IsBytes}
use Rattle.meaning.proofs.Tests.{on_bool, not_false}
use Rattle.meaning.proofs.AreBytes.{bytes_none, bytes_cons}
use Rattle.meaning.proofs.BytesOf.{number_bytes_of}
use Rattle.notation.specs.Words.{with_sign, turned_over, signed_bytes}

-- ---- bounds of a number by its bytes

from_least : (m : ℕ) (bs : List ℕ) → m * 256 ^ length bs ≤ number_from m bs
unfolding number_from
from_least m [] = omega arith
from_least m (b ∷ bs) =
    let h : (m * 256 + b) * 256 ^ length bs ≤ number_from (m * 256 + b) bs = from_least (m * 256 + b) bs in
    let e : m * 256 ^ suc (length bs) ≡ m * (256 * 256 ^ length bs) = ap (m *◌) (pow-succ' 256 (length bs)) in
    omega arith

from_most : (m : ℕ) (bs : List ℕ) → IsBytes bs → number_from m bs + 1 ≤ (m + 1) * 256 ^ length bs
unfolding number_from IsBytes
from_most m [] h = omega arith
from_most m (b ∷ bs) h =
    let l : b < 256 = h 0 in
    let k : number_from (m * 256 + b) bs + 1 ≤ (m * 256 + b + 1) * 256 ^ length bs = from_most (m * 256 + b) bs (λ i. h (suc i)) in
    let j : (m * 256 + b + 1) * 256 ^ length bs ≤ ((m + 1) * 256) * 256 ^ length bs = mul-le-mul_right (256 ^ length bs) (omega arith) in
    let e : (m + 1) * 256 ^ suc (length bs) ≡ (m + 1) * (256 * 256 ^ length bs) = ap ((m + 1) *◌) (pow-succ' 256 (length bs)) in
    omega arith

-- a number whose top bit is not set, and one whose top bit is
low_most : (bs : List ℕ) → IsBytes bs → negative bs ≡ false → 2 * number bs + 1 ≤ 256 ^ length bs
unfolding number number_from negative IsBytes
low_most [] h e = omega arith
low_most (b ∷ bs) h e =
    let l : b < 128 = leb-false 128 b e in
    let k : number_from (0 * 256 + b) bs + 1 ≤ (0 * 256 + b + 1) * 256 ^ length bs = from_most (0 * 256 + b) bs (λ i. h (suc i)) in
    let j : (0 * 256 + b + 1) * 256 ^ length bs ≤ 128 * 256 ^ length bs = mul-le-mul_right (256 ^ length bs) (omega arith) in
    let s : 256 ^ suc (length bs) ≡ 256 * 256 ^ length bs = pow-succ' 256 (length bs) in
    omega arith

high_least : (bs : List ℕ) → negative bs ≡ true → (256 ^ length bs ≤ 2 * number bs) × (1 ≤ length bs)
unfolding number number_from negative
high_least [] e = not_false e
high_least (b ∷ bs) e =
    let l : 128 ≤ b = leb-true 128 b e in
    let k : (0 * 256 + b) * 256 ^ length bs ≤ number_from (0 * 256 + b) bs = from_least (0 * 256 + b) bs in
    let j : 128 * 256 ^ length bs ≤ (0 * 256 + b) * 256 ^ length bs = mul-le-mul_right (256 ^ length bs) (omega arith) in
    let s : 256 ^ suc (length bs) ≡ 256 * 256 ^ length bs = pow-succ' 256 (length bs) in
    (omega arith, omega arith)

-- ---- the shortest unsigned bytes

onto_bytes : (k n : ℕ) (bs : List ℕ) → IsBytes bs → IsBytes (bytes_onto k n bs)
unfolding bytes_onto
onto_bytes zero n bs h = h
onto_bytes (suc k) n bs h =
    on_bool (leb n 0) (λ e. rw (e, bytes_onto) h) (λ e. rw (e, bytes_onto) (onto_bytes k (n / 256) (n % 256 ∷ bs) (bytes_cons (n % 256) bs (omega arith) h)))

-- the first byte is not 0
Leads : List ℕ → Type 0
Leads [] = Unit {0}
Leads (b ∷ bs) = 1 ≤ b

onto_leads : (k n : ℕ) (bs : List ℕ) → n ≤ k → (n ≡ 0 → Leads bs) → Leads (bytes_onto k n bs)
unfolding bytes_onto Leads
onto_leads zero n bs h f = f (omega arith)
onto_leads (suc k) n bs h f =
    on_bool (leb n 0)
    (λ e. let l : n ≤ 0 = leb-true n 0 e in rw (e, bytes_onto) (f (omega arith)))
    (λ e. let l : 0 < n = leb-false n 0 e in rw (e, bytes_onto) (onto_leads k (n / 256) (n % 256 ∷ bs) (omega arith) (λ z. omega arith)))

-- ---- a number with its sign

-- so many bytes are needed
Tight : ℕ → List ℕ → Type 0
Tight n [] = Unit {0}
Tight n (b ∷ bs) = 256 ^ length bs ≤ 2 * n

-- w are the bytes of n, no top bit set, and as few as can be
record Magnitude (n : ℕ) (w : List ℕ) : Type 0 where
  bytes : IsBytes w
  is : number w ≡ n
  low : negative w ≡ false
  tight : Tight n w

behind_zero : (n : ℕ) (bs : List ℕ) → IsBytes bs → number bs ≡ n → negative bs ≡ true → Magnitude n (0 ∷ bs)
unfolding number number_from negative Tight
behind_zero n bs h e i = record { bytes = bytes_cons 0 bs (omega arith) h; is = e; low = refl; tight = let l = (high_least bs i).0 in omega arith }

tight_bare : (n : ℕ) (bs : List ℕ) → Leads bs → number bs ≡ n → Tight n bs
unfolding Leads Tight number number_from
tight_bare n [] h e = tt
tight_bare n (b ∷ bs) h e =
    let k : (0 * 256 + b) * 256 ^ length bs ≤ number_from (0 * 256 + b) bs = from_least (0 * 256 + b) bs in
    let j : 1 * 256 ^ length bs ≤ (0 * 256 + b) * 256 ^ length bs = mul-le-mul_right (256 ^ length bs) (omega arith) in
    omega arith

magnitude : (n : ℕ) → Magnitude n (with_sign (bytes_of n))
unfolding with_sign bytes_of Leads
magnitude n =
    let b : IsBytes (bytes_of n) = onto_bytes n n [] bytes_none in
    on_bool (negative (bytes_of n))
    (λ e. rw (e, with_sign) (behind_zero n (bytes_of n) b (number_bytes_of n) e))
    (λ e. rw (e, with_sign) (record { bytes = b; is = number_bytes_of n; low = e; tight = tight_bare n (bytes_of n) (onto_leads n n [] (omega arith) (λ z. tt)) (number_bytes_of n) }))

-- ---- every bit the other way

turned_length : (bs : List ℕ) → length (turned_over bs) ≡ length bs
unfolding turned_over
turned_length [] = refl
turned_length (b ∷ bs) = ap suc (turned_length bs)

turned_bytes : (bs : List ℕ) → IsBytes (turned_over bs)
unfolding turned_over
turned_bytes [] = bytes_none
turned_bytes (b ∷ bs) = bytes_cons (255 - b) (turned_over bs) (omega arith) (turned_bytes bs)

-- a number and the one turned over add up to all bits set
turned_sum : (m n : ℕ) (bs : List ℕ) → IsBytes bs → number_from m (turned_over bs) + number_from n bs + 1 ≡ (m + n + 1) * 256 ^ length bs
unfolding turned_over number_from IsBytes
turned_sum m n [] h = omega arith
turned_sum m n (b ∷ bs) h =
    let l : b < 256 = h 0 in
    let s : m * 256 + (255 - b) + (n * 256 + b) + 1 ≡ (m + n + 1) * 256 = omega arith in
    let e : (m + n + 1) * 256 * 256 ^ length bs ≡ (m + n + 1) * (256 * 256 ^ length bs) = omega arith in
    turned_sum (m * 256 + (255 - b)) (n * 256 + b) bs (λ i. h (suc i)) ∙ ap (◌* 256 ^ length bs) s ∙ e ∙ ap ((m + n + 1) *◌) (sym (pow-succ' 256 (length bs)))

turned_value : (n : ℕ) (w : List ℕ) → Magnitude (suc n) w → number_from_u8 (turned_over w) ≡ minus (suc (suc n))
unfolding number number_from negative turned_over number_from_u8
turned_value n [] m = let e : 0 ≡ suc n = m.is in absurd (omega arith)
turned_value n (b ∷ bs) m =
    let l : b < 128 = leb-false 128 b m.low in
    let t : leb 128 (255 - b) ≡ true = le-leb 128 (255 - b) (omega arith) in
    let i : number (b ∷ bs) ≡ suc n = m.is in
    let s : number (turned_over (b ∷ bs)) + number (b ∷ bs) + 1 ≡ (0 + 0 + 1) * 256 ^ length (b ∷ bs) = turned_sum 0 0 (b ∷ bs) m.bytes in
    let e : length (turned_over (b ∷ bs)) ≡ length (b ∷ bs) = turned_length (b ∷ bs) in
    let p : 256 ^ length (turned_over (b ∷ bs)) ≡ 256 ^ length (b ∷ bs) = ap (256 ^◌) e in
    let z : 256 ^ length (turned_over (b ∷ bs)) - number (turned_over (b ∷ bs)) ≡ suc (suc n) = omega arith in
    rw (t, number_from_u8) (ap minus z)

-- ---- decimal numbers

-- a signed number as `number_from_u8` gives it: -0 is 0
unfoldable pub value : Signed → Signed
value (plus n) = plus n
value (minus zero) = plus 0
value (minus (suc n)) = minus (suc n)

-- The bytes of a number have its value,
pub signed_value : (s : Signed) → number_from_u8 (signed_bytes s) ≡ value s
unfolding signed_bytes value number_from_u8 negative number number_from
signed_value (plus n) = let m = magnitude n in rw (m.low, number_from_u8) (ap plus m.is)
signed_value (minus zero) = refl
signed_value (minus (suc zero)) = refl
signed_value (minus (suc (suc n))) = turned_value n (with_sign (bytes_of (suc n))) (magnitude (suc n))

-- are bytes,
pub signed_are_bytes : (s : Signed) → IsBytes (signed_bytes s)
unfolding signed_bytes
signed_are_bytes (plus n) = (magnitude n).bytes
signed_are_bytes (minus zero) = bytes_none
signed_are_bytes (minus (suc zero)) = bytes_cons 255 [] (omega arith) bytes_none
signed_are_bytes (minus (suc (suc n))) = turned_bytes (with_sign (bytes_of (suc n)))

plus_most : (bs : List ℕ) (n : ℕ) → IsBytes bs → number_from_u8 bs ≡ plus n → 2 * n + 1 ≤ 256 ^ length bs
unfolding number_from_u8
plus_most bs n h e =
    on_bool (negative bs)
    (λ i. let f : minus (256 ^ length bs - number bs) ≡ plus n = rw (i, number_from_u8) at e in let z : ◌≡◌ {A = ℕ} 0 1 = cc in absurd (omega arith))
    (λ i. let f : plus (number bs) ≡ plus n = rw (i, number_from_u8) at e in let k : number bs ≡ n = cc in let l = low_most bs h i in omega arith)

minus_most : (bs : List ℕ) (n : ℕ) → number_from_u8 bs ≡ minus n → (2 * n ≤ 256 ^ length bs) × (1 ≤ length bs)
unfolding number_from_u8
minus_most bs n e =
    on_bool (negative bs)
    (λ i.
    let f : minus (256 ^ length bs - number bs) ≡ minus n = rw (i, number_from_u8) at e in
    let k : 256 ^ length bs - number bs ≡ n = cc in
    let (l, j) = high_least bs i in
    (omega arith, j))
    (λ i. let f : plus (number bs) ≡ minus n = rw (i, number_from_u8) at e in let z : ◌≡◌ {A = ℕ} 0 1 = cc in absurd (omega arith))

fits_in : (n k : ℕ) (w : List ℕ) → Tight n w → 2 * n + 1 ≤ 256 ^ k → length w ≤ k
unfolding Tight
fits_in n k [] t h = omega arith
fits_in n k (b ∷ bs) t h =
    on_bool (leb k (length bs))
    (λ e. let l : k ≤ length bs = leb-true k (length bs) e in let p : 256 ^ k ≤ 256 ^ length bs = pow-le-pow_right (omega arith) l in absurd (omega arith))
    (λ e. let l : length bs < k = leb-false k (length bs) e in omega arith)

-- and no fewer bytes have it.
pub signed_shortest : (s : Signed) (bs : List ℕ) → IsBytes bs → number_from_u8 bs ≡ value s → length (signed_bytes s) ≤ length bs
unfolding signed_bytes value
signed_shortest (plus n) bs h e = fits_in n (length bs) (with_sign (bytes_of n)) (magnitude n).tight (plus_most bs n h e)
signed_shortest (minus zero) bs h e = omega arith
signed_shortest (minus (suc zero)) bs h e = (minus_most bs 1 e).1
signed_shortest (minus (suc (suc n))) bs h e =
    let l : 2 * suc (suc n) ≤ 256 ^ length bs = (minus_most bs (suc (suc n)) e).0 in
    let k : length (with_sign (bytes_of (suc n))) ≤ length bs = fits_in (suc n) (length bs) (with_sign (bytes_of (suc n))) (magnitude (suc n)).tight (omega arith) in
    let t : length (turned_over (with_sign (bytes_of (suc n)))) ≡ length (with_sign (bytes_of (suc n))) = turned_length (with_sign (bytes_of (suc n))) in
    omega arith
