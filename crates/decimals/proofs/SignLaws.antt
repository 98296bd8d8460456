-- A number's shortest bytes, with a sign, and those of minus the number. Assumes nothing.
use Prim.Native.Nat.{ℕ, zero, suc, ◌+◌, ◌-◌, ◌*◌, ◌/◌, ◌%◌, ◌^◌, ◌≤◌, ◌<◌}
use mathlib.Core.Path.{◌≡◌, refl, sym, ◌∙◌, ap, ap₂}
use mathlib.Core.List.{List, [], ◌∷◌}
use native.Mathlib.Nat.{pow-succ'}
use native.Mathlib.Numerals.{add-one}
use native.Mathlib.Omega.{arith}
use borrow.Author.Tests.{le-leb, lt-leb}
use lib.Dec.{leb}
use lib.ListN.{length, drop, get_or, set, length-set, length-drop, drop_of_length-le}
use lib.Seq.{get_or-set_same}
use Rattle.meaning.proofs.Tests.{on_bool}
use Rattle.meaning.specs.Number.{number, number_from, negative, plus, minus, bytes_of, bytes_onto}
use Rattle.notation.specs.Words.{with_sign, turned_over, signed_bytes}
use Rattle.paths.proofs.NumberLaws.{Bytes, from_at, number_lt, bytes_drop}
use Rattle.paths.proofs.ShortestLaws.{bytes_of_number}
use Rattle.decimals.specs.Places.{Holds, Less, Past, Ends}
use Rattle.decimals.proofs.DigitLaws.{next}
use Rattle.decimals.proofs.RoomLaws.{some_power, set_back}

-- ---- the shortest bytes

-- nothing stands at the room's end
pub at_end : (s : List ℕ) (at : ℕ) → length s ≤ at → number (drop at s) ≡ 0
unfolding number number_from
at_end s at h = ap number (drop_of_length-le s h)

bytes_zero : bytes_of 0 ≡ []
unfolding bytes_of bytes_onto
bytes_zero = refl

first_some : (b p n : ℕ) → n < p → p ≤ b * p + n → 1 ≤ b
first_some zero p n h l = absurd (omega arith)
first_some (suc b) p n h l = omega arith

pub shortest : {s : List ℕ} {at : ℕ} → Holds (number (drop at s)) s at → Bytes s → at < length s → bytes_of (number (drop at s)) ≡ get_or s at 0 ∷ drop (at + 1) s
shortest {s} {at} h k l =
    let e : drop at s ≡ get_or s at 0 ∷ drop (at + 1) s = next s at l in
    let a = from_at s at l in
    let b : number (drop (at + 1) s) < 256 ^ (length s - (at + 1)) = rw (length-drop (at + 1) s) at (number_lt (drop (at + 1) s) (bytes_drop (at + 1) s k)) in
    let c : 256 ^ (length s - (at + 1)) ≤ number (drop at s) = h.least l in
    let y : Bytes (get_or s at 0 ∷ drop (at + 1) s) = rw e at (bytes_drop at s k) in
    ap (λ x. bytes_of (number x)) e
    ∙ bytes_of_number (get_or s at 0) (drop (at + 1) s) (first_some (get_or s at 0) (256 ^ (length s - (at + 1))) (number (drop (at + 1) s)) b (omega arith)) y

-- ---- with_sign

with_high : (c : ℕ) (cs : List ℕ) → 128 ≤ c → with_sign (c ∷ cs) ≡ 0 ∷ c ∷ cs
unfolding with_sign negative
with_high c cs h = rw (le-leb 128 c h, with_sign)

with_low : (c : ℕ) (cs : List ℕ) → c < 128 → with_sign (c ∷ cs) ≡ c ∷ cs
unfolding with_sign negative
with_low c cs h = rw (lt-leb 128 c h, with_sign)

with_none : with_sign (bytes_of 0) ≡ []
unfolding with_sign negative bytes_of bytes_onto
with_none = refl

module _ {s : List ℕ} {at : ℕ} (h : Holds (number (drop at s)) s at) where
  pub sign_set : Bytes s → at < length s → 128 ≤ get_or s at 0 → 0 < at → Ends (with_sign (bytes_of (number (drop at s)))) s (set s (at - 1) 0) (at - 1)
  sign_set k l x o =
      let n = length-set s (at - 1) 0 in
      record {
        long = n;
        within = omega arith;
        is = set_back s at 0 o (omega arith) ∙ ap (0 ∷◌) (next s at l) ∙ sym (ap with_sign (shortest h k l) ∙ with_high (get_or s at 0) (drop (at + 1) s) x);
      }

  pub sign_low : Bytes s → at < length s → get_or s at 0 < 128 → Ends (with_sign (bytes_of (number (drop at s)))) s s at
  sign_low k l x = record {
    long = refl;
    within = omega arith;
    is = next s at l ∙ sym (ap with_sign (shortest h k l) ∙ with_low (get_or s at 0) (drop (at + 1) s) x);
  }

  pub sign_none : length s ≤ at → Ends (with_sign (bytes_of (number (drop at s)))) s s at
  sign_none l = record {
    long = refl;
    within = h.within;
    is = drop_of_length-le s l ∙ sym (ap (λ n. with_sign (bytes_of n)) (at_end s at l) ∙ with_none);
  }

-- ---- negate

-- the last byte of the room, stored
set_last : (s : List ℕ) (at v : ℕ) → at + 1 ≡ length s → drop at (set s at v) ≡ v ∷ []
set_last s at v h =
    let l : at < length (set s at v) = let n = length-set s at v in omega arith in
    let z : length (set s at v) ≤ at + 1 = let n = length-set s at v in omega arith in
    next (set s at v) at l ∙ ap₂ ◌∷◌ (get_or-set_same s at v 0 (omega arith)) (drop_of_length-le (set s at v) z)

minus_none : signed_bytes (minus 0) ≡ []
unfolding signed_bytes
minus_none = refl

minus_one : signed_bytes (minus 1) ≡ 255 ∷ []
unfolding signed_bytes
minus_one = refl

minus_more : (v n : ℕ) → 1 ≤ v → v + 1 ≡ n → signed_bytes (minus n) ≡ turned_over (with_sign (bytes_of v))
unfolding signed_bytes
minus_more zero n h e = absurd (omega arith)
minus_more (suc v) n h e = let f : n ≡ suc (suc v) = omega arith in rw f

module _ {s : List ℕ} {at : ℕ} (h : Holds (number (drop at s)) s at) where
  pub negate_none : at ≡ length s → Ends (signed_bytes (minus (number (drop at s)))) s s at
  negate_none e = record {
    long = refl;
    within = h.within;
    is = drop_of_length-le s {i = at} (omega arith) ∙ sym (ap (λ n. signed_bytes (minus n)) (at_end s at (omega arith)) ∙ minus_none);
  }

  pub negate_some : (at ≡ length s → ⊥) → 1 ≤ number (drop at s)
  negate_some e =
      let w = h.within in
      let l = h.least (omega arith) in
      let o = some_power (length s - (at + 1)) in
      omega arith

  module _ {s₁ : List ℕ} (d : Less s s₁ at) (x : at ≡ length s → ⊥) where
    module _ {top : ℕ} (p : Past s₁ at top) where
      pub negate_one : top ≡ length s₁ → Ends (signed_bytes (minus (number (drop at s)))) s (set s₁ at 255) at
      negate_one e =
          let w = h.within in
          let n = d.long in
          let q = p.high in
          let z = at_end s₁ top (omega arith) in
          let a = p.holds.value in
          let b = d.value in
          let o : number (drop at s) ≡ 1 = omega arith in
          let m = length-set s₁ at 255 in
          record {
            long = m ∙ n;
            within = omega arith;
            is = set_last s₁ at 255 (omega arith) ∙ sym (ap (λ i. signed_bytes (minus i)) o ∙ minus_one);
          }

      module _ {s₂ s₃ : List ℕ} {from : ℕ} (b : Ends (with_sign (bytes_of (number (drop top s₁)))) s₁ s₂ from) where
        pub negate_ends : Ends (turned_over (drop from s₂)) s₂ s₃ from → (top ≡ length s₁ → ⊥) → Ends (signed_bytes (minus (number (drop at s)))) s s₃ from
        negate_ends t y =
            let i = p.holds.within in
            let l : 256 ^ (length s₁ - (top + 1)) ≤ number (drop at s₁) = p.holds.least (omega arith) in
            let o = some_power (length s₁ - (top + 1)) in
            let a = p.holds.value in
            let v = d.value in
            record {
              long = t.long ∙ b.long ∙ d.long;
              within = t.within;
              is = t.is ∙ ap turned_over b.is ∙ sym (minus_more (number (drop top s₁)) (number (drop at s)) (omega arith) (omega arith));
            }

-- ---- how many bytes there are at least

-- bytes are only added
onto_more : (m n : ℕ) (bs : List ℕ) → length bs ≤ length (bytes_onto m n bs)
unfolding bytes_onto
onto_more zero n bs = omega arith
onto_more (suc m) n bs =
    on_bool (leb n 0)
    (λ e. rw (e, bytes_onto) (omega arith))
    (λ e. rw (e, bytes_onto) (let h = onto_more m (n / 256) (n % 256 ∷ bs) in omega arith))

onto_long : (k m n : ℕ) (bs : List ℕ) → n ≤ m → 256 ^ k ≤ n → k + length bs < length (bytes_onto m n bs)
unfolding bytes_onto
onto_long k zero n bs h l = let o = some_power k in absurd (omega arith)
onto_long zero (suc m) n bs h l =
    let o = some_power 0 in
    rw (lt-leb n 0 (omega arith), bytes_onto) (let x = onto_more m (n / 256) (n % 256 ∷ bs) in omega arith)
onto_long (suc k) (suc m) n bs h l =
    let o = some_power (suc k) in
    let p : 256 ^ suc k ≡ 256 * 256 ^ k = pow-succ' 256 k in
    rw (lt-leb n 0 (omega arith), bytes_onto) (let x = onto_long k m (n / 256) (n % 256 ∷ bs) (omega arith) (omega arith) in omega arith)

bytes_long : (k n : ℕ) → 256 ^ k ≤ n → k < length (bytes_of n)
unfolding bytes_of
bytes_long k n h = let x = onto_long k n n [] (omega arith) h in omega arith

sign_more : (bs : List ℕ) → length bs ≤ length (with_sign bs)
unfolding with_sign
sign_more bs = on_bool (negative bs) (λ e. rw (e, with_sign) (omega arith)) (λ e. rw (e, with_sign) (omega arith))

turned_long : (bs : List ℕ) → length (turned_over bs) ≡ length bs
unfolding turned_over
turned_long [] = refl
turned_long (b ∷ bs) = ap suc (turned_long bs)

pub plus_long : (k n : ℕ) → 256 ^ (k + 1) ≤ n → k < length (signed_bytes (plus n))
unfolding signed_bytes
plus_long k n h =
    let a = bytes_long (k + 1) n h in
    let b = sign_more (bytes_of n) in
    omega arith

pub minus_long : (k n : ℕ) → 256 ^ (k + 1) ≤ n → k < length (signed_bytes (minus n))
minus_long k n h =
    let p : 256 ^ (k + 1) ≡ 256 * 256 ^ k = rw (add-one k) (pow-succ' 256 k) in
    let o = some_power k in
    let a = bytes_long k (n - 1) (omega arith) in
    let b = sign_more (bytes_of (n - 1)) in
    let c = turned_long (with_sign (bytes_of (n - 1))) in
    rw (minus_more (n - 1) n (omega arith) (omega arith), c) (omega arith)
