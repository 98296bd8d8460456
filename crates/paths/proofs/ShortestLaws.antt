-- The shortest unsigned bytes of a number are its bytes without the zeros in front. Assumes nothing.
use Prim.Native.Nat.{ℕ, zero, suc, ◌+◌, ◌-◌, ◌*◌, ◌/◌, ◌%◌, ◌^◌, ◌≤◌, ◌<◌}
use mathlib.Core.Path.{◌≡◌, refl, sym, ◌∙◌, ap, subst}
use mathlib.Core.List.{List, [], ◌∷◌, ◌++◌, append-nil}
use native.Mathlib.Nat.{one-le-pow}
use native.Mathlib.Numerals.{add-one}
use native.Mathlib.Omega.{arith}
use borrow.Author.Tests.{eqb-true, eqb-false, eq-eqb, ne_eqb}
use lib.Dec.{leb, eqb}
use lib.ListN.{length, take, drop, get_or, length-drop}
use lib.Seq.{drop-cons, drop-length}
use Rattle.std.specs.List.{AllWithin, HoldsAt}
use Rattle.std.specs.Option.{MatchOption, unwrap_or}
use Rattle.std.specs.Prelude.{Option, None, Some}
use Rattle.meaning.proofs.Tests.{on_bool, leb_yes, leb_no}
use Rattle.meaning.specs.Number.{number, number_from, bytes_onto, bytes_of}
use Rattle.paths.specs.Wide.{Zeros, Shortest, Holds}
use Rattle.paths.specs.declared.casts.Number.{Number}
use Rattle.paths.proofs.NumberLaws.{Bytes, on_lt, upto_suc, split_at, bytes_drop}

-- any count that is large enough gives the same bytes
bytes_any : (k j n : ℕ) (bs : List ℕ) → n ≤ k → n ≤ j → bytes_onto k n bs ≡ bytes_onto j n bs
unfolding bytes_onto
bytes_any zero zero n bs h i = refl
bytes_any zero (suc j) n bs h i = let e : n ≡ 0 = omega arith in rw e
bytes_any (suc k) zero n bs h i = let e : n ≡ 0 = omega arith in rw e
bytes_any (suc k) (suc j) n bs h i =
    on_bool (leb n 0)
    (λ e. rw (e, bytes_onto))
    (λ e. rw (e, bytes_onto) (bytes_any k j (n / 256) (n % 256 ∷ bs) (omega arith) (omega arith)))

bytes_step : (n : ℕ) (bs : List ℕ) → 1 ≤ n → bytes_onto n n bs ≡ bytes_onto (n / 256) (n / 256) (n % 256 ∷ bs)
unfolding bytes_onto
bytes_step zero bs h = absurd (omega arith)
bytes_step (suc k) bs h = rw (leb_no (suc k) 0 h, bytes_onto) (bytes_any k (suc k / 256) (suc k / 256) (suc k % 256 ∷ bs) (omega arith) (omega arith))

bytes_from : (m : ℕ) (bs cs : List ℕ) → 1 ≤ m → Bytes bs → bytes_onto (number_from m bs) (number_from m bs) cs ≡ bytes_onto m m (bs ++ cs)
unfolding number_from
bytes_from m [] cs h l = refl
bytes_from m (b ∷ bs) cs h l =
    let x : b < 256 = (l 0).fits in
    let d : (m * 256 + b) / 256 ≡ m = omega arith in
    let r : (m * 256 + b) % 256 ≡ b = omega arith in
    bytes_from (m * 256 + b) bs cs (omega arith) (λ i. l (suc i))
    ∙ bytes_step (m * 256 + b) (bs ++ cs) (omega arith)
    ∙ rw (d, r)

-- bytes that start with no zero
pub bytes_of_number : (x : ℕ) (bs : List ℕ) → 1 ≤ x → Bytes (x ∷ bs) → bytes_of (number (x ∷ bs)) ≡ x ∷ bs
unfolding bytes_of number number_from bytes_onto
bytes_of_number x bs h l =
    let y : x < 256 = (l 0).fits in
    let e : 0 * 256 + x ≡ x = omega arith in
    let d : x / 256 ≡ 0 = omega arith in
    let r : x % 256 ≡ x = omega arith in
    let f : bytes_onto (number_from x bs) (number_from x bs) [] ≡ bytes_onto x x (bs ++ []) = bytes_from x bs [] h (λ i. l (suc i)) in
    rw e (f ∙ bytes_step x (bs ++ []) h ∙ rw (d, r, append-nil))

-- ---- zeros: the first i bytes are 0

pub zeros_none : {b : List ℕ} → Zeros b 0
unfolding number number_from
zeros_none = record { within = omega arith; none = refl }

pub zeros_more : {b : List ℕ} {i : ℕ} → Zeros b i → i < length b → get_or b i 0 ≡ 0 → Zeros b (i + 1)
zeros_more {b} {i} d h z = let s = upto_suc b i h in let n = d.none in record { within = omega arith; none = omega arith }

pub zeros_number : {b : List ℕ} {i : ℕ} → Zeros b i → number b ≡ number (drop i b)
zeros_number {b} {i} d = split_at b i ∙ rw d.none (omega arith)

pub zeros_found : {b : List ℕ} {i : ℕ} → Zeros b i → i < length b → (get_or b i 0 ≡ 0 → ⊥) → Bytes b → Shortest b i
zeros_found {b} {i} d h x k = record {
  within = d.within;
  shown =
      let e : drop i b ≡ get_or b i 0 ∷ drop (suc i) b = drop-cons b i 0 h in
      let y : Bytes (get_or b i 0 ∷ drop (suc i) b) = rw e at (bytes_drop i b k) in
      rw (zeros_number d, e) (sym (bytes_of_number (get_or b i 0) (drop (suc i) b) (omega arith) y));
}

pub zeros_all : {b : List ℕ} {i : ℕ} → Zeros b i → length b ≤ i → Shortest b i
unfolding number number_from bytes_of bytes_onto
zeros_all {b} {i} d h =
    let z : i ≡ length b = let y = d.within in omega arith in
    let e : drop i b ≡ [] = ap (λ n. drop n b) z ∙ drop-length b in
    record { within = d.within; shown = e ∙ sym (ap bytes_of (zeros_number d ∙ ap number e)) }

zeros_upto : (b : List ℕ) (i : ℕ) → i ≤ length b → AllWithin (λ x. x ≡ 0) b 0 i → Zeros b i
zeros_upto b zero h z = zeros_none
zeros_upto b (suc i) h z = rw (← add-one i) (zeros_more (zeros_upto b i (omega arith) (λ k d l m. z k d l (omega arith))) h (z i 0 (omega arith) (omega arith)))

-- where the first byte stands that is not 0
pub first_place : (b : List ℕ) (r : Option ℕ)
    → MatchOption r (AllWithin (λ x. x ≡ 0) b 0 (length b)) (λ i. (i < length b) × HoldsAt (λ x. x ≡ 0 → ⊥) b i × AllWithin (λ x. x ≡ 0) b 0 i)
    → Bytes b → Shortest b (unwrap_or r (length b))
first_place b None z k = zeros_all (zeros_upto b (length b) (omega arith) z) (omega arith)
first_place b (Some i) z k = let h : i < length b = z.0 in zeros_found (zeros_upto b i (omega arith) z.2) h (z.1 0) k

-- they are read back as the number
back_from : (k n : ℕ) (bs : List ℕ) → n ≤ k → number_from 0 (bytes_onto k n bs) ≡ number_from n bs
unfolding bytes_onto number_from
back_from zero n bs h = let e : 0 ≡ n = omega arith in ap (λ m. number_from m bs) e
back_from (suc k) n bs h =
    on_bool (leb n 0)
    (λ e. let l = leb_yes n 0 e in let z : 0 ≡ n = omega arith in rw (e, bytes_onto) (ap (λ m. number_from m bs) z))
    (λ e.
    let d : n / 256 * 256 + n % 256 ≡ n = omega arith in
    rw (e, bytes_onto) (back_from k (n / 256) (n % 256 ∷ bs) (omega arith) ∙ ap (λ m. number_from m bs) d))

pub number_bytes_of : (n : ℕ) → number (bytes_of n) ≡ n
unfolding number bytes_of number_from
number_bytes_of n = back_from n n [] (omega arith)

-- and the first of them is not 0
First : List ℕ → Type 0
First [] = Unit {0}
First (x ∷ xs) = 1 ≤ x

bytes_zero : (k : ℕ) (bs : List ℕ) → bytes_onto k 0 bs ≡ bs
unfolding bytes_onto
bytes_zero zero bs = refl
bytes_zero (suc k) bs = refl

first_onto : (k n : ℕ) (bs : List ℕ) → n ≤ k → 1 ≤ n → First (bytes_onto k n bs)
unfolding bytes_onto First
first_onto zero n bs h l = absurd (omega arith)
first_onto (suc k) n bs h l =
    rw (leb_no n 0 l, bytes_onto)
    (on_lt 0 (n / 256)
    (λ m. first_onto k (n / 256) (n % 256 ∷ bs) (omega arith) m)
    (λ m. let z : n / 256 ≡ 0 = omega arith in rw (z, bytes_zero k (n % 256 ∷ bs)) (omega arith)))

first_of : (n : ℕ) → First (bytes_of n)
unfolding bytes_of bytes_onto First
first_of zero = tt
first_of (suc n) = first_onto (suc n) (suc n) [] (omega arith) (omega arith)

-- ---- what the place of the shortest bytes says

pub shortest_first : {b : List ℕ} {z : ℕ} → Shortest b z → z < length b → 1 ≤ get_or b z 0
unfolding First
shortest_first {b} {z} s h = subst First (sym s.shown ∙ drop-cons b z 0 h) (first_of (number b))

pub shortest_number : {b : List ℕ} {z : ℕ} → Shortest b z → number b ≡ number (drop z b)
shortest_number {b} {z} s = sym (ap number s.shown ∙ number_bytes_of (number b))

-- nothing stands above the lower part d where the whole is no larger by a p
pub no_higher : (t p d v : ℕ) → v ≡ t * p + d → v < p + d → t ≡ 0
no_higher zero p d v e h = refl
no_higher (suc t) p d v e h = absurd (omega arith)

pub shortest_zeros : {b : List ℕ} {z : ℕ} → Shortest b z → Zeros b z
shortest_zeros {b} {z} s = record {
  within = s.within;
  none =
      let p : 1 ≤ 256 ^ (length b - z) = one-le-pow (length b - z) 256 (omega arith) in
      no_higher (number (take z b)) (256 ^ (length b - z)) (number (drop z b)) (number (drop z b)) (sym (shortest_number s) ∙ split_at b z) (omega arith);
}

pub shortest_zero : {b : List ℕ} {z : ℕ} → Shortest b z → z ≡ length b → number b ≡ 0
unfolding number number_from
shortest_zero {b} {z} s e = shortest_number s ∙ ap number (ap (λ n. drop n b) e ∙ drop-length b)

pub shortest_some : {b : List ℕ} {z : ℕ} → Shortest b z → number b ≡ 0 → z ≡ length b
unfolding bytes_of bytes_onto
shortest_some {b} {z} s e =
    let l = length-drop z b in
    let n : length (drop z b) ≡ 0 = ap length (s.shown ∙ ap bytes_of e) in
    let w = s.within in
    omega arith

pub zero_test : {b : List ℕ} {z : ℕ} → Shortest b z → eqb z (length b) ≡ eqb (number b) 0
zero_test {b} {z} s =
    on_bool (eqb z (length b))
    (λ e. e ∙ sym (eq-eqb (number b) 0 (shortest_zero s (eqb-true z (length b) e))))
    (λ e. e ∙ sym (ne_eqb (number b) 0 (λ n. eqb-false z (length b) e (shortest_some s n))))

-- a number's `len` counts its shortest bytes
pub held_len : {v : ℕ} {n : Number} → Holds v n → n.len ≡ length (bytes_of v)
held_len {v} {n} h =
    let l = length-drop (65 - n.len) n.bytes in
    let e : length (drop (65 - n.len) n.bytes) ≡ length (bytes_of v) = ap length h.shown in
    let w = h.wide in
    let k = h.within in
    omega arith
