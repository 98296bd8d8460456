-- The five sizes of a length's prefix: what the writer writes, and that the reader takes it, or more bytes that say the same. Assumes nothing.
use Prim.Native.Nat.{ℕ, suc, ◌+◌, ◌-◌, ◌*◌, ◌/◌, ◌^◌, ◌≤◌, ◌<◌}
use mathlib.Core.Path.{◌≡◌, refl, sym, ◌∙◌, subst, ap, ap₂}
use mathlib.Core.List.{List, [], ◌∷◌, ◌++◌}
use mathlib.Core.Logic.{◌↔◌}
use mathlib.Core.Bool.{true, false, not}
use lib.Dec.{ltb, T, nltb→le}
use lib.ListN.{length, length-append}
use native.Mathlib.Omega.{arith}
use native.Mathlib.Nat.{div-lt_iff_lt-mul, div-one, one-le-pow}
use Rattle.refusals.specs.declared.Refusal.TheVariants.{BadPrefix}
use Rattle.meaning.specs.Meter.{done, stop, give, refuse}
use Rattle.meaning.specs.Form.{Reading, write_length, write_atom, needs_prefix, more, length_from, IsBytes}
use Rattle.meaning.proofs.Tests.{on_bool, not_false, leb_yes, leb_true, leb_no}
use Rattle.meaning.proofs.MeterLaws.{not_stop}
use Rattle.meaning.proofs.ReaderLaws.{at, Took, digits, digits_long, more_at, more_inv}
use Rattle.meaning.proofs.NoShorter.{NoShorter, exactly, longer, both}

pub ltb_yes : (m n : ℕ) → ltb m n ≡ true → m < n
ltb_yes m n h = leb_yes (suc m) n h

pub ltb_no : (m n : ℕ) → ltb m n ≡ false → n ≤ m
ltb_no m n h = nltb→le m n (subst (λ b. T (not b)) (sym h) tt)

less : (m n : ℕ) → m < n → ltb m n ≡ true
less m n h = leb_true (suc m) n h

not_less : (m n : ℕ) → n ≤ m → ltb m n ≡ false
not_less m n h = leb_no (suc m) n (omega arith)

-- ---- the table

-- how many bytes more follow the first
pub data Size : Type 0 where
  none_more one_more two_more three_more four_more : Size

unfoldable pub bytes_more : Size → ℕ
bytes_more none_more = 0
bytes_more one_more = 1
bytes_more two_more = 2
bytes_more three_more = 3
bytes_more four_more = 4

-- the first bytes: from here
unfoldable pub from : Size → ℕ
from none_more = 0x80
from one_more = 0xc0
from two_more = 0xe0
from three_more = 0xf0
from four_more = 0xf8

-- how many first bytes
unfoldable pub firsts : Size → ℕ
firsts none_more = 0x40
firsts one_more = 0x20
firsts two_more = 0x10
firsts three_more = 8
firsts four_more = 4

-- the least length: what no shorter prefix can say
unfoldable pub least : Size → ℕ
least none_more = 0
least one_more = 0x40
least two_more = 0x2000
least three_more = 0x10_0000
least four_more = 0x800_0000

-- n is a length of this size
pub record Says (z : Size) (n : ℕ) : Type 0 where
  pub enough : least z ≤ n
  pub below : n < firsts z * 256 ^ bytes_more z

-- p is a first byte of this size
pub record Begins (z : Size) (p : ℕ) : Type 0 where
  pub enough : from z ≤ p
  pub below : p < from z + firsts z

-- every length below 2 ^ 34 has a size
pub size_of : (n : ℕ) → n < 2 ^ 34 → (z : Size) × Says z n
unfolding least firsts bytes_more
size_of n h =
    on_bool (ltb n 0x40) (λ e. (none_more, record { enough = omega arith; below = ltb_yes n _ e }))
    (λ e. on_bool (ltb n 0x2000) (λ f. (one_more, record { enough = ltb_no n _ e; below = ltb_yes n _ f }))
    (λ f. on_bool (ltb n 0x10_0000) (λ g. (two_more, record { enough = ltb_no n _ f; below = ltb_yes n _ g }))
    (λ g. on_bool (ltb n 0x800_0000) (λ i. (three_more, record { enough = ltb_no n _ g; below = ltb_yes n _ i }))
    (λ i. (four_more, record { enough = ltb_no n _ i; below = h })))))

-- the writer, by size
pub write_sized : (z : Size) (n : ℕ) → Says z n → write_length n ≡ (from z + n / 256 ^ bytes_more z) ∷ digits (bytes_more z) n
unfolding least firsts bytes_more from digits write_length
write_sized none_more n h = let l = h.below in rw (less n 0x40 l, div-one n, write_length)
write_sized one_more n h = let k = h.enough in let l = h.below in rw (not_less n 0x40 k, less n 0x2000 l, div-one n, write_length)
write_sized two_more n h = let k = h.enough in let l = h.below in rw (not_less n 0x40 (omega arith), not_less n 0x2000 k, less n 0x10_0000 l, div-one n, write_length)
write_sized three_more n h =
    let k = h.enough in let l = h.below in
    rw (not_less n 0x40 (omega arith), not_less n 0x2000 (omega arith), not_less n 0x10_0000 k, less n 0x800_0000 l, div-one n, write_length)
write_sized four_more n h =
    let k = h.enough in
    rw (not_less n 0x40 (omega arith), not_less n 0x2000 (omega arith), not_less n 0x10_0000 (omega arith), not_less n 0x800_0000 k, div-one n, write_length)

-- the reader, by size
pub length_sized : (z : Size) (p : ℕ) → Begins z p → (s : Reading) → length_from p s ≡ more (bytes_more z) (p - from z) s
unfolding firsts bytes_more from length_from more give
length_sized none_more p h s = let l = h.below in rw (less p 0xc0 l, length_from)
length_sized one_more p h s = let k = h.enough in let l = h.below in rw (not_less p 0xc0 k, less p 0xe0 l, length_from)
length_sized two_more p h s = let k = h.enough in let l = h.below in rw (not_less p 0xc0 (omega arith), not_less p 0xe0 k, less p 0xf0 l, length_from)
length_sized three_more p h s =
    let k = h.enough in let l = h.below in
    rw (not_less p 0xc0 (omega arith), not_less p 0xe0 (omega arith), not_less p 0xf0 k, less p 0xf8 l, length_from)
length_sized four_more p h s =
    let k = h.enough in let l = h.below in
    rw (not_less p 0xc0 (omega arith), not_less p 0xe0 (omega arith), not_less p 0xf0 (omega arith), not_less p 0xf8 k, less p 0xfc l, length_from)

-- every first byte from 80 to fb has a size, and no later one is carried
begins : (p : ℕ) → 0x80 ≤ p → p < 0xfc → (z : Size) × Begins z p
unfolding from firsts
begins p k h =
    on_bool (ltb p 0xc0) (λ e. (none_more, record { enough = k; below = ltb_yes p _ e }))
    (λ e. on_bool (ltb p 0xe0) (λ f. (one_more, record { enough = ltb_no p _ e; below = ltb_yes p _ f }))
    (λ f. on_bool (ltb p 0xf0) (λ g. (two_more, record { enough = ltb_no p _ f; below = ltb_yes p _ g }))
    (λ g. on_bool (ltb p 0xf8) (λ i. (three_more, record { enough = ltb_no p _ g; below = ltb_yes p _ i }))
    (λ i. (four_more, record { enough = ltb_no p _ i; below = h })))))

not_carried : (p : ℕ) → 0xfc ≤ p → (s : Reading) → length_from p s ≡ stop BadPrefix s
unfolding length_from refuse
not_carried p k s =
    rw (not_less p 0xc0 (omega arith), not_less p 0xe0 (omega arith), not_less p 0xf0 (omega arith), not_less p 0xf8 (omega arith), not_less p 0xfc k, length_from)

below_all : (z : Size) (n : ℕ) → n < firsts z * 256 ^ bytes_more z → n < 2 ^ 34
unfolding firsts bytes_more
below_all none_more n h = omega arith
below_all one_more n h = omega arith
below_all two_more n h = omega arith
below_all three_more n h = omega arith
below_all four_more n h = h

-- ---- a length that a shorter prefix can say is written in fewer bytes

short_one : (n : ℕ) → n < 0x40 → length (write_length n) ≤ 1
unfolding write_length
short_one n h = rw (less n 0x40 h, write_length) (omega arith)

short_two : (n : ℕ) → n < 0x2000 → length (write_length n) ≤ 2
unfolding write_length
short_two n h =
    on_bool (ltb n 0x40)
    (λ e. let l = short_one n (ltb_yes n _ e) in omega arith)
    (λ e. rw (e, less n 0x2000 h, write_length) (omega arith))

short_three : (n : ℕ) → n < 0x10_0000 → length (write_length n) ≤ 3
unfolding write_length
short_three n h =
    on_bool (ltb n 0x2000)
    (λ e. let l = short_two n (ltb_yes n _ e) in omega arith)
    (λ e. let k = ltb_no n 0x2000 e in rw (not_less n 0x40 (omega arith), e, less n 0x10_0000 h, write_length) (omega arith))

short_four : (n : ℕ) → n < 0x800_0000 → length (write_length n) ≤ 4
unfolding write_length
short_four n h =
    on_bool (ltb n 0x10_0000)
    (λ e. let l = short_three n (ltb_yes n _ e) in omega arith)
    (λ e. let k = ltb_no n 0x10_0000 e in rw (not_less n 0x40 (omega arith), not_less n 0x2000 (omega arith), e, less n 0x800_0000 h, write_length) (omega arith))

overlong : (z : Size) (n : ℕ) → n < least z → length (write_length n) ≤ bytes_more z
unfolding least bytes_more
overlong none_more n h = absurd (omega arith)
overlong one_more n h = short_one n h
overlong two_more n h = short_two n h
overlong three_more n h = short_three n h
overlong four_more n h = short_four n h

-- the first byte of a size has room for a length's highest digit where the length is of that size
quotient : (z : Size) (n : ℕ) → (n / 256 ^ bytes_more z < firsts z) ↔ (n < firsts z * 256 ^ bytes_more z)
quotient z n = div-lt_iff_lt-mul (one-le-pow (bytes_more z) 256 (omega arith))

-- ---- the two laws

-- the reader has n of n's written prefix
pub prefix_at : (z : Size) (n : ℕ) (rest : List ℕ) (u : ℕ) → Says z n
    → length_from (from z + n / 256 ^ bytes_more z) (at (digits (bytes_more z) n ++ rest) u) ≡ done n (at rest u)
prefix_at z n rest u h =
    let q : n / 256 ^ bytes_more z < firsts z = (quotient z n).1 h.below in
    let e : from z + n / 256 ^ bytes_more z - from z ≡ n / 256 ^ bytes_more z = omega arith in
    length_sized z (from z + n / 256 ^ bytes_more z) (record { enough = omega arith; below = omega arith }) _
    ∙ ap (λ v. more (bytes_more z) v (at (digits (bytes_more z) n ++ rest) u)) e
    ∙ more_at (bytes_more z) n rest u

-- of bytes, the reader has n of n's written prefix, or of more bytes than that has
pub prefix_inv : (p n : ℕ) (s t : Reading) → 0x80 ≤ p → length_from p s ≡ done n t
    → (ds : List ℕ) × Took ds 0 s t × (IsBytes s.left → NoShorter (write_length n) (p ∷ ds) × (n < 2 ^ 34))
prefix_inv p n s t k h =
    on_bool (ltb p 0xfc)
    (λ e. go (begins p k (ltb_yes p _ e)))
    (λ e. not_stop (sym (not_carried p (ltb_no p _ e) s) ∙ h))
  where
    spelled : (z : Size) (ds : List ℕ) → n < firsts z * 256 ^ bytes_more z → ds ≡ digits (bytes_more z) n → p ≡ from z + n / 256 ^ bytes_more z → NoShorter (write_length n) (p ∷ ds)
    spelled z ds below e f =
        on_bool (ltb n (least z))
        (λ i.
        let l : length (write_length n) ≤ bytes_more z = overlong z n (ltb_yes n _ i) in
        let m : length ds ≡ bytes_more z = ap length e ∙ digits_long (bytes_more z) n in
        longer (omega arith))
        (λ i. exactly (ap₂ ◌∷◌ f e ∙ sym (write_sized z n (record { enough = ltb_no n _ i; below = below }))))

    go : (z : Size) × Begins z p → (ds : List ℕ) × Took ds 0 s t × (IsBytes s.left → NoShorter (write_length n) (p ∷ ds) × (n < 2 ^ 34))
    go (z, b) =
        let (ds, took, are) = more_inv (bytes_more z) (p - from z) n s t (sym (length_sized z p b s) ∙ h) in (
          ds,
          took,
          λ w.
              let (e, f) = are w in
              let v : p - from z ≡ n / 256 ^ bytes_more z = f in
              let b1 = b.enough in
              let b2 = b.below in
              let below : n < firsts z * 256 ^ bytes_more z = (quotient z n).0 (omega arith) in
              let p= : p ≡ from z + n / 256 ^ bytes_more z = omega arith in
              (spelled z ds below e p=, below_all z n below),
        )

-- a written prefix is neither nil's byte nor a pair's, nor an atom by itself
pub first_long : (z : Size) (n : ℕ) → Says z n → 0 < n → 0x80 < from z + n / 256 ^ bytes_more z
unfolding from bytes_more
first_long none_more n h k = let e : n / 1 ≡ n = div-one n in omega arith
first_long one_more n h k = omega arith
first_long two_more n h k = omega arith
first_long three_more n h k = omega arith
first_long four_more n h k = omega arith

pub first_short : (z : Size) (n : ℕ) → Says z n → from z + n / 256 ^ bytes_more z < 0xff
unfolding from firsts
first_short z n h = go z ((quotient z n).1 h.below)
  where
    go : (z : Size) {q : ℕ} → q < firsts z → from z + q < 0xff
    go none_more k = omega arith
    go one_more k = omega arith
    go two_more k = omega arith
    go three_more k = omega arith
    go four_more k = omega arith

-- ---- which atoms have one

-- an atom that needs a prefix is written, and charged, by its length
pub prefixed : (bs : List ℕ) → needs_prefix bs ≡ true → (write_atom bs ≡ write_length (length bs) ++ bs) × (0 < length bs)
unfolding needs_prefix write_atom write_length
prefixed [] h = not_false h
prefixed (x ∷ []) h = let l = leb_yes 0x80 x h in (rw (leb_no (suc x) 0x80 (omega arith), write_atom), omega arith)
prefixed (x ∷ y ∷ bs) h = (refl, omega arith)

-- behind any prefix that says its length an atom is no shorter than its written form
pub behind : (bs w : List ℕ) → NoShorter (write_length (length bs)) w → NoShorter (write_atom bs) (w ++ bs)
unfolding write_atom write_length
behind [] w h = both h (exactly refl)
behind (x ∷ []) w h =
    on_bool (ltb x 0x80)
    (λ e. let l = h.long in let m = length-append w (x ∷ []) in rw (e, write_atom) (longer (omega arith)))
    (λ e. rw (e, write_atom) (both h (exactly refl)))
behind (x ∷ y ∷ bs) w h = both h (exactly refl)
