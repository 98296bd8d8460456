-- The number at the room's end: times and plus, bytes before it, one less, every bit turned. Assumes nothing.
use Prim.Native.Nat.{ℕ, zero, suc, ◌+◌, ◌-◌, ◌*◌, ◌/◌, ◌%◌, ◌^◌, ◌≤◌, ◌<◌}
use mathlib.Core.Path.{◌≡◌, refl, sym, ◌∙◌, ap, ap₂}
use mathlib.Core.List.{List, [], ◌∷◌, ◌++◌, append-nil}
use native.Mathlib.Nat.{pow-succ', pow-le-pow_right, one-le-pow}
use native.Mathlib.Omega.{arith}
use borrow.Author.Tests.{eqb-true, eqb-false}
use lib.Dec.{eqb}
use lib.Arith.{digits_lt}
use lib.Pow.{pow-add}
use borrow.Rule.Slice.PartMut.{put_mid}
use Rattle.std.proofs.lemmas.List.{drop_at}
use lib.ListN.{take, length-append, drop_of_length-le, length, drop, get_or, set, length-set, length-drop}
use lib.Seq.{length-take-le, take_all, drop-cons, drop-set-lt, get_or-set_same, get_or-set_other}
use Rattle.meaning.proofs.Tests.{on_bool}
use Rattle.meaning.specs.Number.{number}
use Rattle.notation.specs.Words.{turned_over}
use Rattle.paths.proofs.NumberLaws.{Bytes, on_lt, from_at, from_set, from_end}
use Rattle.decimals.specs.Places.{Holds, Times, Before, Holding, Less, Past, Ends}

-- ---- powers

pub some_power : (k : ℕ) → 1 ≤ 256 ^ k
some_power k = one-le-pow k 256 (omega arith)

pub power_below : (a b : ℕ) → 256 ^ a < 256 ^ b → a < b
power_below a b h = on_lt a b (λ l. l) (λ l. let p : 256 ^ b ≤ 256 ^ a = pow-le-pow_right (omega arith) l in absurd (omega arith))

back_power : (n i : ℕ) → 0 < i → i ≤ n → 256 ^ (n - (i - 1)) ≡ 256 * 256 ^ (n - i)
back_power n i h l = let e : n - (i - 1) ≡ suc (n - i) = omega arith in ap (256 ^◌) e ∙ pow-succ' 256 (n - i)

least_times : (k p : ℕ) → 0 < k → p ≤ k * p
least_times zero p h = absurd (omega arith)
least_times (suc k) p h = omega arith

-- ---- the byte before i

module _ (s : List ℕ) (i : ℕ) (h : 0 < i) (l : i ≤ length s) where
  before_next : i - 1 + 1 ≡ i
  before_next = omega arith

  back_at : number (drop (i - 1) s) ≡ get_or s (i - 1) 0 * 256 ^ (length s - i) + number (drop i s)
  back_at = from_at s (i - 1) (omega arith) ∙ rw before_next

  back_set : (v : ℕ) → number (drop (i - 1) (set s (i - 1) v)) ≡ v * 256 ^ (length s - i) + number (drop i s)
  back_set v = from_set s (i - 1) v (omega arith) ∙ rw before_next

  back_cons : drop (i - 1) s ≡ get_or s (i - 1) 0 ∷ drop i s
  back_cons = drop-cons s (i - 1) 0 (omega arith) ∙ let e : suc (i - 1) ≡ i = omega arith in ap (λ n. get_or s (i - 1) 0 ∷ drop n s) e

-- below i nothing has changed
pub record Same (s₀ s : List ℕ) (i : ℕ) : Type 0 where
  pub within : i ≤ length s₀
  pub long : length s ≡ length s₀
  pub same : (j : ℕ) → j < i → get_or s j 0 ≡ get_or s₀ j 0

same_all : (s : List ℕ) → Same s s (length s)
same_all s = record { within = omega arith; long = refl; same = λ j h. refl }

same_less : {s₀ s : List ℕ} {i : ℕ} → Same s₀ s i → 0 < i → (v : ℕ) → Same s₀ (set s (i - 1) v) (i - 1)
same_less {s₀} {s} {i} d h v = record {
  within = let w = d.within in omega arith;
  long = length-set s (i - 1) v ∙ d.long;
  same = λ j l. get_or-set_other s (i - 1) j v 0 (λ e. omega arith) ∙ d.same j (omega arith);
}

-- ---- times_plus

-- a byte is set
bytes_set : (s : List ℕ) (i v : ℕ) → Bytes s → i < length s → v < 256 → Bytes (set s i v)
bytes_set s i v b h l k =
    on_bool (eqb k i)
    (λ e. let f : k ≡ i = eqb-true k i e in rw (f, get_or-set_same s i v 0 h) (record { fits = l }))
    (λ e. rw (get_or-set_other s i k v 0 (eqb-false k i e)) (b k))

pub record Timing (m c₀ : ℕ) (s₀ s : List ℕ) (at carry i : ℕ) : Type 0 where
  pub kept : Same s₀ s i
  pub bytes : Bytes s
  pub low : at ≤ i
  pub small : carry < m
  pub done : number (drop i s) + carry * 256 ^ (length s₀ - i) ≡ m * number (drop i s₀) + c₀

pub timing_starts : {m c₀ : ℕ} {s : List ℕ} {at : ℕ} → Bytes s → at ≤ length s → c₀ < m → Timing m c₀ s s at c₀ (length s)
timing_starts {m} {c₀} {s} {at} b h l =
    let z : length s - length s ≡ 0 = omega arith in
    let e : number (drop (length s) s) ≡ 0 = from_end s (length s) refl in
    record { kept = same_all s; bytes = b; low = h; small = l; done = rw (z, e) (omega arith) }

byte_times : (b m c : ℕ) → b < 256 → c < m → b * m + c < 256 * m
byte_times b m c h l = digits_lt h l

carry_up : (p v b m c c₀ x s t : ℕ) → v + x * 256 ≡ b * m + c → s + c * p ≡ m * t + c₀ → v * p + s + x * (256 * p) ≡ m * (b * p + t) + c₀
carry_up p v b m c c₀ x s t e f = let g : (v + x * 256) * p ≡ (b * m + c) * p = ap (◌* p) e in omega arith

module _ {m c₀ : ℕ} {s₀ s : List ℕ} {at carry i : ℕ} (d : Timing m c₀ s₀ s at carry i) where
  pub timing_turn : {b : ℕ} → b ≡ get_or s (i - 1) 0 → at < i
      → Timing m c₀ s₀ (set s (i - 1) ((b * m + carry) % 256)) at ((b * m + carry) / 256) (i - 1)
  timing_turn {b} e h =
      let w = d.kept.within in
      let l = d.kept.long in
      let o : 0 < i = omega arith in
      let f : b ≡ get_or s₀ (i - 1) 0 = e ∙ d.kept.same (i - 1) (omega arith) in
      let k : b < 256 = rw e (d.bytes (i - 1)).fits in
      let small = byte_times b m carry k d.small in
      record {
        kept = same_less d.kept o _;
        bytes = bytes_set s (i - 1) _ d.bytes (omega arith) (omega arith);
        low = omega arith;
        small = omega arith;
        done = rw (back_set s i o (omega arith) ((b * m + carry) % 256), back_at s₀ i o w, back_power (length s₀) i o w, l, ← f)
            (carry_up (256 ^ (length s₀ - i)) ((b * m + carry) % 256) b m carry c₀ ((b * m + carry) / 256) (number (drop i s)) (number (drop i s₀)) (omega arith) d.done);
      }

-- ---- before

pub record Putting (n : ℕ) (s₀ s : List ℕ) (at left i : ℕ) : Type 0 where
  pub within : i ≤ at
  pub long : length s ≡ length s₀
  pub some : left * 256 ^ (at - i) ≤ n
  pub least : i < at → 256 ^ (at - (i + 1)) ≤ n
  pub done : number (drop i s) + left * 256 ^ (length s₀ - i) ≡ n * 256 ^ (length s₀ - at) + number (drop at s₀)

put_some : (p x v left n : ℕ) → v + x * 256 ≡ left → left * p ≤ n → x * (256 * p) ≤ n
put_some p x v left n e h = let g : (v + x * 256) * p ≡ left * p = ap (◌* p) e in omega arith

put_up : (p v x left s t : ℕ) → v + x * 256 ≡ left → s + left * p ≡ t → v * p + s + x * (256 * p) ≡ t
put_up p v x left s t e f = let g : (v + x * 256) * p ≡ left * p = ap (◌* p) e in omega arith

module _ {n : ℕ} {s₀ s : List ℕ} {at left i : ℕ} (d : Putting n s₀ s at left i) where
  put_power : 0 < left → 256 ^ (at - i) ≤ n
  put_power h = let a = d.some in let b = least_times left (256 ^ (at - i)) h in omega arith

  pub putting_back : 0 < left → n < 256 ^ at → 1 ≤ i
  putting_back h l =
      let a = put_power h in
      let k = power_below (at - i) at (omega arith) in
      omega arith

  pub putting_turn : 0 < left → n < 256 ^ at → at ≤ length s₀ → Putting n s₀ (set s (i - 1) (left % 256)) at (left / 256) (i - 1)
  putting_turn h l w =
      let o = putting_back h l in
      let x = d.within in
      let y = d.long in
      record {
        within = omega arith;
        long = length-set s (i - 1) (left % 256) ∙ y;
        some = rw (back_power at i o x) (put_some (256 ^ (at - i)) (left / 256) (left % 256) left n (omega arith) d.some);
        least = λ k. let e : i - 1 + 1 ≡ i = omega arith in rw e (put_power h);
        done = rw (back_set s i o (omega arith) (left % 256), back_power (length s₀) i o (omega arith), y)
            (put_up (256 ^ (length s₀ - i)) (left % 256) (left / 256) left (number (drop i s)) _ (omega arith) d.done);
      }

-- ---- extended

extended_least : (m v c : ℕ) (s : List ℕ) (at r carry : ℕ) → Holds v s at → c < m → r ≤ at → (r < at → 256 ^ (at - (r + 1)) ≤ carry)
    → carry * 256 ^ (length s - at) ≤ m * v + c → r < length s → 256 ^ (length s - (r + 1)) ≤ m * v + c
extended_least m v c s at r carry h k w f e l =
    on_lt r at
    (λ x.
    let a : 256 ^ (at - (r + 1)) ≤ carry = f x in
    let o = h.within in
    let q : length s - (r + 1) ≡ at - (r + 1) + (length s - at) = omega arith in
    let p = ap (256 ^◌) q ∙ pow-add 256 (at - (r + 1)) (length s - at) in
    let b = times_mono (256 ^ (at - (r + 1))) carry (256 ^ (length s - at)) a in
    omega arith)
    (λ x.
    let z : r ≡ at = omega arith in
    let a : 256 ^ (length s - (r + 1)) ≤ v = rw z (h.least (omega arith)) in
    let b = least_times m v (omega arith) in
    omega arith)
  where
    times_mono : (a b p : ℕ) → a ≤ b → a * p ≤ b * p
    times_mono a b p g = let e : b ≡ a + (b - a) = omega arith in rw e (omega arith)

pub extended : {m c : ℕ} {s s₁ s' : List ℕ} {at carry r : ℕ} → Before carry s₁ s' at r → Times m c s s₁ at carry → Holds (number (drop at s)) s at → c < m
    → Holding (m * number (drop at s) + c) s s' r
extended {m} {c} {s} {s₁} {s'} {at} {carry} {r} b t h k =
    let l : length s' ≡ length s = b.long ∙ t.long in
    let e : number (drop r s') ≡ carry * 256 ^ (length s - at) + number (drop at s₁) = rw t.long at b.value in
    let f = t.value in
    let o = h.within in
    let x = b.within in
    record {
      long = l;
      holds = record {
        within = omega arith;
        value = omega arith;
        least = λ y. rw l (extended_least m (number (drop at s)) c s at r carry h k x b.least (omega arith) (omega arith));
      };
    }

-- ---- less_one

pub record Lessening (s₀ s : List ℕ) (at i : ℕ) : Type 0 where
  pub kept : Same s₀ s i
  pub low : at ≤ i
  pub zeros : number (drop i s₀) ≡ 0
  pub done : number (drop i s) + 1 ≡ 256 ^ (length s₀ - i)

pub lessening_starts : {s : List ℕ} {at : ℕ} → at ≤ length s → Lessening s s at (length s)
lessening_starts {s} {at} h =
    let z : length s - length s ≡ 0 = omega arith in
    let e : number (drop (length s) s) ≡ 0 = from_end s (length s) refl in
    record { kept = same_all s; low = h; zeros = e; done = rw (z, e) refl }

-- what changed from i on changed as much from any index before
same_before : (k : ℕ) (s₀ s : List ℕ) (at i : ℕ) → i ≡ k + at → Same s₀ s i → number (drop i s) + 1 ≡ number (drop i s₀) → number (drop at s) + 1 ≡ number (drop at s₀)
same_before zero s₀ s at i e d h = let f : at ≡ i = omega arith in rw f h
same_before (suc k) s₀ s at i e d h =
    let w = d.within in
    let l = d.long in
    let a = from_at s at (omega arith) in
    let b = from_at s₀ at (omega arith) in
    let r = same_before k s₀ s (at + 1) i (omega arith) d h in
    rw (a, b, l, d.same at (omega arith)) (omega arith)

less_last : (p b s : ℕ) → 1 ≤ b → s + 1 ≡ p → (b - 1) * p + s + 1 ≡ b * p + 0
less_last p zero s h e = absurd (omega arith)
less_last p (suc b) s h e = let f : suc b - 1 ≡ b = omega arith in rw f (omega arith)

module _ {s₀ s : List ℕ} {at i : ℕ} (d : Lessening s₀ s at i) where
  pub lessening_turn : get_or s (i - 1) 0 ≡ 0 → at < i → Lessening s₀ (set s (i - 1) 255) at (i - 1)
  lessening_turn e h =
      let w = d.kept.within in
      let l = d.kept.long in
      let o : 0 < i = omega arith in
      let f : get_or s₀ (i - 1) 0 ≡ 0 = sym (d.kept.same (i - 1) (omega arith)) ∙ e in
      let z = d.zeros in
      let g = d.done in
      record {
        kept = same_less d.kept o 255;
        low = omega arith;
        zeros = rw (back_at s₀ i o w, f) (omega arith);
        done = rw (back_set s i o (omega arith) 255, back_power (length s₀) i o w, l) (omega arith);
      }

  pub lessening_last : (get_or s (i - 1) 0 ≡ 0 → ⊥) → at < i → Less s₀ (set s (i - 1) (get_or s (i - 1) 0 - 1)) at
  lessening_last e h =
      let w = d.kept.within in
      let l = d.kept.long in
      let o : 0 < i = omega arith in
      let f : get_or s (i - 1) 0 ≡ get_or s₀ (i - 1) 0 = d.kept.same (i - 1) (omega arith) in
      let x : 1 ≤ get_or s (i - 1) 0 = omega arith in
      let q : number (drop (i - 1) (set s (i - 1) (get_or s (i - 1) 0 - 1))) + 1 ≡ number (drop (i - 1) s₀) =
      rw (back_set s i o (omega arith) (get_or s (i - 1) 0 - 1), back_at s₀ i o w, ← f, l, d.zeros)
      (less_last (256 ^ (length s₀ - i)) (get_or s (i - 1) 0) (number (drop i s)) x d.done) in
      record {
        long = length-set s _ _ ∙ l;
        value = same_before (i - 1 - at) s₀ _ at (i - 1) (omega arith) (same_less d.kept o _) q;
      }

-- ---- past_zero

pub past_zero : {s : List ℕ} {at : ℕ} → get_or s at 0 ≡ 0 → at < length s → 256 ^ (length s - (at + 1)) ≤ number (drop at s) + 1 → Past s at (at + 1)
past_zero {s} {at} e h l =
    let a : number (drop at s) ≡ get_or s at 0 * 256 ^ (length s - (at + 1)) + number (drop (at + 1) s) = from_at s at h in
    let b : number (drop at s) ≡ 0 * 256 ^ (length s - (at + 1)) + number (drop (at + 1) s) = rw e at a in
    record {
      low = omega arith;
      high = omega arith;
      holds = record {
        within = omega arith;
        value = omega arith;
        least = λ k.
            let q : length s - (at + 1) ≡ suc (length s - (at + 1 + 1)) = omega arith in
            let p = ap (256 ^◌) q ∙ pow-succ' 256 (length s - (at + 1 + 1)) in
            let o = some_power (length s - (at + 1 + 1)) in
            omega arith;
      };
    }

pub past_none : {s : List ℕ} {at : ℕ} → (get_or s at 0 ≡ 0 → ⊥) → at < length s → Past s at at
past_none {s} {at} e h =
    let a = from_at s at h in
    let b = least_times (get_or s at 0) (256 ^ (length s - (at + 1))) (omega arith) in
    record { low = omega arith; high = omega arith; holds = record { within = omega arith; value = refl; least = λ k. omega arith } }

-- ---- turn_over

-- the first i bytes are turned over, and those from i on are as they were
pub record Turning (s₀ s : List ℕ) (i : ℕ) : Type 0 where
  pub long : length s ≡ length s₀
  pub done : (k : ℕ) → k < i → get_or s k 0 ≡ 255 - get_or s₀ k 0
  pub rest : (k : ℕ) → i ≤ k → get_or s k 0 ≡ get_or s₀ k 0

turned_each : (xs ys : List ℕ) → length xs ≡ length ys → ((k : ℕ) → k < length ys → get_or xs k 0 ≡ 255 - get_or ys k 0) → xs ≡ turned_over ys
unfolding turned_over
turned_each [] [] l h = refl
turned_each [] (y ∷ ys) l h = absurd (omega arith)
turned_each (x ∷ xs) [] l h = absurd (omega arith)
turned_each (x ∷ xs) (y ∷ ys) l h = ap₂ ◌∷◌ (h 0 (omega arith)) (turned_each xs ys (omega arith) (λ k m. h (suc k) (omega arith)))

pub set_back : (s : List ℕ) (i v : ℕ) → 0 < i → i ≤ length s → drop (i - 1) (set s (i - 1) v) ≡ v ∷ drop i s
set_back s i v h l =
    let k : i ≤ length (set s (i - 1) v) = rw (length-set s (i - 1) v) l in
    back_cons (set s (i - 1) v) i h k ∙ ap₂ ◌∷◌ (get_or-set_same s (i - 1) v 0 (omega arith)) (drop-set-lt i s (i - 1) v (omega arith))

pub turning_starts : (s : List ℕ) → Turning s s 0
turning_starts s = record { long = refl; done = λ k l. absurd (omega arith); rest = λ k l. refl }

pub turning_turn : {s₀ s : List ℕ} {i v : ℕ} → Turning s₀ s i → i < length s₀ → v ≡ 255 - get_or s i 0 → Turning s₀ (set s i v) (i + 1)
turning_turn {s₀} {s} {i} {v} d h e = record {
  long = length-set s i v ∙ d.long;
  done = λ k l.
      on_lt k i
      (λ x. get_or-set_other s i k v 0 (λ z. omega arith) ∙ d.done k x)
      (λ x. let z : k ≡ i = omega arith in let l = d.long in rw z (get_or-set_same s i v 0 (omega arith) ∙ e ∙ ap (255 -◌) (d.rest i (omega arith))));
  rest = λ k l. get_or-set_other s i k v 0 (λ z. omega arith) ∙ d.rest k (omega arith);
}

pub turning_ends : {s ys : List ℕ} {at i : ℕ} → Turning (take (length s - at) (drop at s)) ys i → length (take (length s - at) (drop at s)) ≤ i → at ≤ length s → Ends (turned_over (drop at s)) s (put_mid at (length s - at) s ys) at
turning_ends {s} {ys} {at} {i} d' h l =
    let w : take (length s - at) (drop at s) ≡ drop at s = take_all (length s - at) (drop at s) (omega (arith, length-drop at s)) in
    let d : Turning (drop at s) ys i = rw w at d' in
    let g : length ys ≡ length s - at = d.long ∙ length-drop at s in
    let n : drop (length s - at) (drop at s) ≡ [] = drop_of_length-le (drop at s) (omega (arith, length-drop at s)) in
    let f : length (take at s) ≡ at = length-take-le at s l in
    let m : length (take at s ++ ys) ≡ length s = length-append (take at s) ys ∙ omega arith in
    rw (n, append-nil ys)
    (record {
      long = m;
      within = omega arith;
      is = drop_at (take at s) ys at f ∙ turned_each ys (drop at s) d.long (λ k o. d.done k (omega (arith, ap length w)));
    })
