-- Printing byte by byte: what stands after one more, and what a loop over a list keeps.
use mathlib.Core.Path.{◌≡◌, refl, sym, ◌∙◌, ap}
use mathlib.Core.List.{List, [], ◌∷◌, ◌++◌, append-nil, append_assoc}
use Prim.Native.Nat.{ℕ, zero, suc, ◌+◌, ◌-◌, ◌*◌, ◌/◌, ◌%◌, ◌^◌, ◌≤◌, ◌<◌}
use native.Mathlib.Omega.{arith}
use native.Mathlib.Numerals.{add-one}
use native.Mathlib.Nat.{pow-suc, one-le-pow}
use lib.ListN.{length, take, get_or, length-append}
use lib.Seq.{take-suc, take_all}
use borrow.Author.Tests.{lt-ltb, le-ltb}
use Rattle.io.specs.Digits.{hex_digit_ascii, last_digits, IsDigitCount}
use Rattle.lines.specs.Hex.{hex_of}
use Rattle.lines.specs.Text.{Printed, ok_tree, places, decimal_of, blank_decimal, numbers_text, numbers_line, no_number}

pub nothing : (s : List ℕ) (at : ℕ) → Printed [] s s at at
nothing s at = record { long = refl; within = λ h. h; stands = λ h. sym (append-nil (take at s)); next = λ h. omega arith }

pub joined : (a b s t u : List ℕ) (at k r : ℕ) → Printed b t u k r → Printed a s t at k → Printed (a ++ b) s u at r
joined a b s t u at k r q p =
    let l : length (a ++ b) ≡ length a + length b = length-append a b in
    let z : length t ≡ length s = p.long in
    record {
      long = q.long ∙ p.long;
      within = λ h. q.within (p.within h);
      stands = λ h. let e : k ≡ at + length a = p.next (omega arith) in
          q.stands (omega arith) ∙ ap (λ (x : List ℕ). x ++ b) (p.stands (omega arith)) ∙ append_assoc (take at s) a b;
      next = λ h. let e : k ≡ at + length a = p.next (omega arith) in let d : r ≡ k + length b = q.next (omega arith) in omega arith;
    }

-- ---- a loop over a list

-- what is printed of a list is printed item by item
pub record Itemwise (f : List ℕ → List ℕ) : Type 0 where
  pub none : f [] ≡ []
  pub joins : (a b : List ℕ) → f (a ++ b) ≡ f a ++ f b

-- the first i items are printed
pub record Through (f : List ℕ → List ℕ) (xs s t : List ℕ) (at k i : ℕ) : Type 0 where
  pub bound : i ≤ length xs
  pub printed : Printed (f (take i xs)) s t at k

module _ (f : List ℕ → List ℕ) (m : Itemwise f) (xs s : List ℕ) (at : ℕ) where
  pub starts : Through f xs s s at at 0
  starts = record { bound = omega arith; printed = rw m.none (nothing s at) }

  pub turn : (t u : List ℕ) (k r i : ℕ) → Printed (f (get_or xs i 0 ∷ [])) t u k r → Through f xs s t at k i → i < length xs → Through f xs s u at r (i + 1)
  turn t u k r i q v h = record {
    bound = omega arith;
    printed = rw (add-one, take-suc xs i 0, m.joins (take i xs) (get_or xs i 0 ∷ []))
        (joined (f (take i xs)) (f (get_or xs i 0 ∷ [])) s t u at k r q v.printed);
  }

  pub ends : (t : List ℕ) (k i : ℕ) → Through f xs s t at k i → length xs ≤ i → Printed (f xs) s t at k
  ends t k i v h = rw (take_all i xs h) at v.printed

-- bytes as two digits each
hex_join : (a b : List ℕ) → hex_of (a ++ b) ≡ hex_of a ++ hex_of b
unfolding hex_of
hex_join [] b = refl
hex_join (x ∷ a) b = ap (λ (z : List ℕ). hex_digit_ascii (x / 16) ∷ hex_digit_ascii (x % 16) ∷ z) (hex_join a b)

pub hex_each : Itemwise hex_of
unfolding hex_of
hex_each = record { none = refl; joins = hex_join }

pub byte_put : (s t u : List ℕ) (at k r x d e : ℕ) → Printed (e ∷ []) t u k r → Printed (d ∷ []) s t at k → d ≡ hex_digit_ascii (x / 16) → e ≡ hex_digit_ascii (x % 16) → Printed (hex_of (x ∷ [])) s u at r
unfolding hex_of
byte_put s t u at k r x d e q p dd ee = rw (sym dd, sym ee) (joined (d ∷ []) (e ∷ []) s t u at k r q p)

pub ok_ends : (b s t u : List ℕ) (at k r : ℕ) → Printed (hex_of b) t u k r → Printed (111 ∷ 107 ∷ 32 ∷ []) s t at k → Printed (ok_tree b) s u at r
unfolding ok_tree
ok_ends b s t u at k r q p = joined (111 ∷ 107 ∷ 32 ∷ []) (hex_of b) s t u at k r q p

-- a number
less_one : (k : ℕ) → suc k - 1 ≡ k
less_one k = omega arith

pub places_fewest : (f n k : ℕ) → n < 10 ^ suc f → IsDigitCount 10 1 n k → places f n ≡ k
unfolding places
places_fewest f n zero h p = absurd (omega (arith, p.0))
places_fewest zero n (suc zero) h p = refl
places_fewest zero n (suc (suc k)) h p =
    let a : 10 ^ suc k ≤ n = rw (less_one (suc k)) at (p.2 (omega arith)) in
    let b : 10 ^ suc k ≡ 10 ^ k * 10 = pow-suc 10 k in
    let d : 1 ≤ 10 ^ k = one-le-pow k 10 (omega arith) in
    absurd (omega arith)
places_fewest (suc f) n (suc zero) h p = let a : n < 10 = p.1 in rw (lt-ltb n 10 a, places)
places_fewest (suc f) n (suc (suc k)) h p =
    let a : 10 ^ suc k ≤ n = rw (less_one (suc k)) at (p.2 (omega arith)) in
    let b : 10 ^ suc k ≡ 10 ^ k * 10 = pow-suc 10 k in
    let d : 1 ≤ 10 ^ k = one-le-pow k 10 (omega arith) in
    let e : 10 ^ suc (suc k) ≡ 10 ^ suc k * 10 = pow-suc 10 (suc k) in
    let g : 10 ^ suc (suc f) ≡ 10 ^ suc f * 10 = pow-suc 10 (suc f) in
    let i : n < 10 ^ suc (suc k) = p.1 in
    let j : 10 ^ k ≤ n / 10 = omega arith in
    rw (le-ltb n 10 (omega arith), places) (ap suc (places_fewest f (n / 10) (suc k) (omega arith) (omega arith, omega arith, λ x. rw (less_one k) j)))

pub number_ends : (n k : ℕ) (w s t : List ℕ) (at r : ℕ) → Printed (take k w) s t at r → take k w ≡ last_digits 10 k n → IsDigitCount 10 1 n k → n < 2 ^ 64 → Printed (decimal_of n) s t at r
unfolding decimal_of
number_ends n k w s t at r p e f h = rw (places_fewest 19 n k (omega arith) f, ← e) p

pub blank_ends : (n : ℕ) (s t u : List ℕ) (at k r : ℕ) → Printed (decimal_of n) t u k r → Printed (32 ∷ []) s t at k → Printed (numbers_text (n ∷ [])) s u at r
unfolding numbers_text blank_decimal
blank_ends n s t u at k r q p = rw (append-nil (decimal_of n)) (joined (32 ∷ []) (decimal_of n) s t u at k r q p)

numbers_join : (a b : List ℕ) → numbers_text (a ++ b) ≡ numbers_text a ++ numbers_text b
unfolding numbers_text
numbers_join [] b = refl
numbers_join (n ∷ a) b = ap (λ (z : List ℕ). blank_decimal n ++ z) (numbers_join a b) ∙ sym (append_assoc (blank_decimal n) (numbers_text a) (numbers_text b))

pub number_each : Itemwise numbers_text
unfolding numbers_text
number_each = record { none = refl; joins = numbers_join }

pub numbers_end : (ns s t u : List ℕ) (at k r i : ℕ) → Printed (10 ∷ []) t u k r → Through numbers_text ns s t at k i → length ns ≤ i → Printed (numbers_line ns) s u at r
unfolding numbers_line
numbers_end ns s t u at k r i q v h = joined (numbers_text ns) (10 ∷ []) s t u at k r q (ends numbers_text number_each ns s at t k i v h)

pub no_ends : (n : ℕ) (s t u : List ℕ) (at k r : ℕ) → Printed (numbers_line (n ∷ [])) t u k r → Printed (110 ∷ 111 ∷ []) s t at k → Printed (no_number n) s u at r
unfolding no_number
no_ends n s t u at k r q p = joined (110 ∷ 111 ∷ []) (numbers_line (n ∷ [])) s t u at k r q p
