-- How many bytes a number needs, and how large a number of that many bytes is. Assumes nothing.
use Prim.Native.Nat.{ℕ, zero, suc, ◌+◌, ◌-◌, ◌*◌, ◌/◌, ◌%◌, ◌^◌, ◌≤◌, ◌<◌}
use mathlib.Core.Path.{◌≡◌, sym, ap}
use mathlib.Core.List.{List, [], ◌∷◌}
use native.Mathlib.Nat.{mul-le-mul_right, pow-le-pow_right, lt_of_lt_of_le}
use native.Mathlib.Omega.{arith}
use lib.Dec.{leb}
use lib.ListN.{length, get_or}
use Rattle.meaning.proofs.Tests.{on_bool}
use Rattle.meaning.specs.Number.{number, bytes_onto, bytes_of}
use Rattle.paths.specs.Wide.{Shortest}
use Rattle.paths.proofs.NumberLaws.{Bytes, number_lt, from_at, split_at, on_lt}
use Rattle.paths.proofs.ShortestLaws.{number_bytes_of, shortest_first}

pub number_below : (b : List ℕ) (n : ℕ) → Bytes b → length b ≤ n → number b < 256 ^ n
number_below b n h l = lt_of_lt_of_le (number_lt b h) (pow-le-pow_right (omega arith) l)

at_least : (xs : List ℕ) (i : ℕ) → i < length xs → get_or xs i 0 * 256 ^ (length xs - (i + 1)) ≤ number xs
at_least xs i h = let s = split_at xs i in let f = from_at xs i h in omega arith

-- a byte that is not 0, with k bytes or more after it
pub large : (xs : List ℕ) (i k : ℕ) → i < length xs → 1 ≤ get_or xs i 0 → k ≤ length xs - (i + 1) → 256 ^ k ≤ number xs
large xs i k h x l =
    let a = at_least xs i h in
    let b : 1 * 256 ^ (length xs - (i + 1)) ≤ get_or xs i 0 * 256 ^ (length xs - (i + 1)) = mul-le-mul_right (256 ^ (length xs - (i + 1))) x in
    let d : 256 ^ k ≤ 256 ^ (length xs - (i + 1)) = pow-le-pow_right (omega arith) l in
    omega arith

bytes_onto_bytes : (k n : ℕ) (bs : List ℕ) → Bytes bs → Bytes (bytes_onto k n bs)
unfolding bytes_onto
bytes_onto_bytes zero n bs h = h
bytes_onto_bytes (suc k) n bs h =
    on_bool (leb n 0)
    (λ e. rw (e, bytes_onto) h)
    (λ e. rw (e, bytes_onto) (bytes_onto_bytes k (n / 256) (n % 256 ∷ bs) more))
  where
    more : Bytes (n % 256 ∷ bs)
    more zero = record { fits = omega arith }
    more (suc i) = h i

pub bytes_of_bytes : (n : ℕ) → Bytes (bytes_of n)
unfolding bytes_of
bytes_of_bytes n = bytes_onto_bytes n n [] (λ i. record { fits = omega arith })

-- 256 ^ k and more need over k bytes, and no number below does
pub long_bytes : (n k : ℕ) → 256 ^ k ≤ n → k < length (bytes_of n)
long_bytes n k h =
    on_lt k (length (bytes_of n))
    (λ l. l)
    (λ l.
    let b : number (bytes_of n) < 256 ^ k = number_below (bytes_of n) k (bytes_of_bytes n) l in
    let e : number (bytes_of n) ≡ n = number_bytes_of n in
    absurd (omega arith))

pub bytes_long : (n k : ℕ) → k < length (bytes_of n) → 256 ^ k ≤ n
bytes_long n k h =
    let s : Shortest (bytes_of n) 0 = record { within = omega arith; shown = ap bytes_of (sym (number_bytes_of n)) } in
    let x : 1 ≤ get_or (bytes_of n) 0 0 = shortest_first s (omega arith) in
    let l : 256 ^ k ≤ number (bytes_of n) = large (bytes_of n) 0 k (omega arith) x (omega arith) in
    let e : number (bytes_of n) ≡ n = number_bytes_of n in
    omega arith

pub short_bytes : (n k : ℕ) → n < 256 ^ k → length (bytes_of n) ≤ k
short_bytes n k h = on_lt k (length (bytes_of n)) (λ l. let b : 256 ^ k ≤ n = bytes_long n k l in absurd (omega arith)) (λ l. l)
