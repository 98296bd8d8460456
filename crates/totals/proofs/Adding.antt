-- One form more: each need of the functions that add to a report. Assumes nothing.
use mathlib.Core.Path.{◌≡◌, refl, ◌∙◌}
use native.Mathlib.Decide.{dec_le}
use Rattle.std.proofs.lemmas.List.{ext_get_or}
use mathlib.Core.List.{List, [], ◌∷◌}
use mathlib.Core.Bool.{Bool, true, false, ◌&&◌}
use Prim.Native.Nat.{ℕ, zero, suc, ◌+◌, ◌-◌, ◌^◌, ◌<◌, ◌≤◌, max}
use native.Mathlib.Omega.{arith}
use lib.Dec.{ltb}
use mir.Val.{bool_byte}
use lib.ListN.{length, get_or, set}
use borrow.Author.Tests.{ltb-true, le-ltb, ltb-false}
use Rattle.refusals.specs.declared.Refusal.{Refusal}
use Rattle.refusals.specs.Numbers.{number_of}
pub use Rattle.refusals.proofs.Only.{number_least}
use Rattle.meaning.proofs.Tests.{not_false, on_bool}
use Rattle.meaning.specs.Run.{mark_number}
use Rattle.totals.specs.declared.Savings.{Savings}
use Rattle.totals.specs.Savings.{form_most, greater, rules_with, with_answer, with_refusal, sum_from, forms_of, small_all, is_open}

-- ---- what an open report's numbers keep to

pub both : (a b : Bool) → (a && b) ≡ true → (a ≡ true) × (b ≡ true)
both true b e = (refl, e)
both false b e = not_false e

pub open_few : (s : Savings) → is_open s ≡ true → forms_of s < 4096
unfolding is_open
open_few s e = ltb-true (forms_of s) form_most (both (ltb (forms_of s) form_most) _ e).0

open_sums : (s : Savings) → is_open s ≡ true → small_all (s.marked ∷ s.before ∷ s.after ∷ s.passes ∷ []) ≡ true
unfolding is_open
open_sums s e = (both (small_all (s.marked ∷ s.before ∷ s.after ∷ s.passes ∷ [])) _ (both (ltb (forms_of s) form_most) _ e).1).0

pub open_rules : (s : Savings) → is_open s ≡ true → small_all s.rules ≡ true
unfolding is_open
open_rules s e = (both (small_all (s.marked ∷ s.before ∷ s.after ∷ s.passes ∷ [])) _ (both (ltb (forms_of s) form_most) _ e).1).1

pub small_at : (ns : List ℕ) (i : ℕ) → small_all ns ≡ true → get_or ns i 0 < 2 ^ 63
unfolding small_all
small_at [] i e = positive
  where
    positive : 0 < 2 ^ 63
    positive = ltb-true 0 (2 ^ 63) refl
small_at (n ∷ ns) zero e = ltb-true n (2 ^ 63) (both (ltb n (2 ^ 63)) (small_all ns) e).0
small_at (n ∷ ns) (suc i) e = small_at ns i (both (ltb n (2 ^ 63)) (small_all ns) e).1

-- a column is no more than all of them
sum_least : (n : ℕ) (ns : List ℕ) → n ≤ sum_from n ns
unfolding sum_from
sum_least n [] = omega arith
sum_least n (m ∷ ns) = let z = sum_least (n + m) ns in omega (arith, z)

column_least : (n : ℕ) (ns : List ℕ) (i : ℕ) → get_or ns i 0 ≤ sum_from n ns
unfolding sum_from
column_least n [] i = omega arith
column_least n (m ∷ ns) zero = let z = sum_least (n + m) ns in omega (arith, z)
column_least n (m ∷ ns) (suc i) = column_least (n + m) ns i

-- numbers that fit 64 bits: over variables, since the limits are large
low_fits : (n : ℕ) → n ≤ 4097 → n < 2 ^ 64
low_fits n l = trans_lt n 4097 (2 ^ 64) l (ltb-true 4097 (2 ^ 64) refl)
  where
    trans_lt : (a b c : ℕ) → a ≤ b → b < c → a < c
    trans_lt a b c x y = omega arith

half_fits : (a b h t : ℕ) → a < h → b ≤ h → h + h ≡ t → a + b < t
half_fits a b h t x y e = omega (arith, e)

pub sum_fits : (a b : ℕ) → a < 2 ^ 63 → b < 4294967296 → a + b < 2 ^ 64
sum_fits a b x y = half_fits a b (2 ^ 63) (2 ^ 64) x (below b 4294967296 (2 ^ 63) y (ltb-true 4294967296 (2 ^ 63) refl)) refl
  where
    below : (n m k : ℕ) → n < m → m < k → n ≤ k
    below n m k p q = omega arith

module _ (s : Savings) (o : is_open s ≡ true) where
  abbrev forms : ℕ
  forms = sum_from s.answered s.refused

  few : sum_from s.answered s.refused < 4096
  unfolding forms_of
  few = open_few s o

  pub answered_fits : s.answered + 1 < 2 ^ 64
  answered_fits = let z = sum_least s.answered s.refused in low_fits (s.answered + 1) (omega (arith, z, few))

  pub column_fits : (i : ℕ) → get_or s.refused i 0 + 1 < 2 ^ 64
  column_fits i = let z = column_least s.answered s.refused i in low_fits (get_or s.refused i 0 + 1) (omega (arith, z, few))

  pub marked_fits : (b : Bool) → s.marked + bool_byte b < 2 ^ 64
  marked_fits true = sum_fits s.marked 1 (small_at (s.marked ∷ s.before ∷ s.after ∷ s.passes ∷ []) 0 (open_sums s o)) (omega arith)
  marked_fits false = sum_fits s.marked 0 (small_at (s.marked ∷ s.before ∷ s.after ∷ s.passes ∷ []) 0 (open_sums s o)) (omega arith)

  pub before_fits : (n : ℕ) → n ≤ 32768 → s.before + n < 2 ^ 64
  before_fits n l = sum_fits s.before n (small_at (s.marked ∷ s.before ∷ s.after ∷ s.passes ∷ []) 1 (open_sums s o)) (omega arith)

  pub after_fits : (n : ℕ) → n ≤ 32768 → s.after + n < 2 ^ 64
  after_fits n l = sum_fits s.after n (small_at (s.marked ∷ s.before ∷ s.after ∷ s.passes ∷ []) 2 (open_sums s o)) (omega arith)

-- ---- with_refusal

pub refusal_least : (r : Refusal) (n : ℕ) → n ≡ number_of r → 1 ≤ n
refusal_least r n e = rw e (number_least r)

pub refused_is : (s : Savings) (r : Refusal) (n : ℕ) → n ≡ number_of r
    → record { answered = s.answered; refused = set s.refused (n - 1) (get_or s.refused (n - 1) 0 + 1); marked = s.marked; before = s.before; after = s.after; passes = s.passes; rules = s.rules } ≡ with_refusal s r
unfolding with_refusal
refused_is s r n e = rw e refl

-- ---- greater

pub greater_is : (a b : ℕ) → max a b ≡ greater a b
unfolding greater
greater_is a b = go (dec_le a b)
  where
    go : Dec (a ≤ b) → max a b ≡ greater a b
    go (yes l) = on_bool (ltb a b) (λ y. let e : max a b ≡ b = omega arith in e ∙ rw y refl) (λ y. let e : max a b ≡ b = omega arith in let i : b ≤ a = ltb-false a b y in let k : b ≡ a = omega arith in e ∙ k ∙ rw y refl)
    go (no l) = let e : max a b ≡ a = omega (arith, l) in let i : b ≤ a = omega (arith, l) in e ∙ rw (le-ltb a b i) refl

-- ---- with_counts and with_answer

-- the sums below k are counted, and the others stand
pub record Counting (n : List ℕ) (c : ℕ → ℕ) (sums : List ℕ) (k : ℕ) : Type 0 where
  pub eight : length sums ≡ 8
  pub done : (j : ℕ) → j < k → get_or sums j 0 ≡ get_or n j 0 + c (j + 1)
  pub left : (j : ℕ) → k ≤ j → get_or sums j 0 ≡ get_or n j 0

pub count_fits : (n : List ℕ) → small_all n ≡ true → (c : ℕ → ℕ) (sums : List ℕ) (k : ℕ) → Counting n c sums k → (m : ℕ) → m < 4294967296 → get_or sums k 0 + m < 2 ^ 64
count_fits n o c sums k h m l = rw (h.left k (omega arith)) (sum_fits (get_or n k 0) m (small_at n k o) l)

pub counts_are : (n : List ℕ) (c : ℕ → ℕ) (sums : List ℕ) (k : ℕ) → k ≡ 8 → Counting n c sums k → sums ≡ rules_with n c
unfolding rules_with
counts_are n c sums k e h =
    ext_get_or 0 sums (rules_with n c) h.eight each
  where
    each : (i : ℕ) → i < length sums → get_or sums i 0 ≡ get_or (rules_with n c) i 0
    each zero l = h.done 0 (omega arith)
    each (suc zero) l = h.done 1 (omega arith)
    each (suc (suc zero)) l = h.done 2 (omega arith)
    each (suc (suc (suc zero))) l = h.done 3 (omega arith)
    each (suc (suc (suc (suc zero)))) l = h.done 4 (omega arith)
    each (suc (suc (suc (suc (suc zero))))) l = h.done 5 (omega arith)
    each (suc (suc (suc (suc (suc (suc zero)))))) l = h.done 6 (omega arith)
    each (suc (suc (suc (suc (suc (suc (suc zero))))))) l = h.done 7 (omega arith)
    each (suc (suc (suc (suc (suc (suc (suc (suc i)))))))) l = absurd (let z = h.eight in omega (arith, z))

-- a bool as a number is the mark's
pub mark_byte : (b : Bool) → bool_byte b ≡ mark_number b
unfolding mark_number
mark_byte true = refl
mark_byte false = refl

pub answered_is : (s : Savings) (before after passes most : ℕ) (mark : Bool) (ns : List ℕ) (c : ℕ → ℕ) → ns ≡ rules_with s.rules c → most ≡ greater s.passes passes
    → record { answered = s.answered + 1; refused = s.refused; marked = s.marked + bool_byte mark; before = s.before + before; after = s.after + after; passes = most; rules = ns }
    ≡ with_answer s before after passes (mark_number mark) c
unfolding with_answer
answered_is s before after passes most mark ns c en em = rw (en, em, mark_byte mark) refl
