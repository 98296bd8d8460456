-- Bytes written as hex digits are read back, and their digits are plain bytes. Assumes nothing.
use Prim.Native.Nat.{ℕ, suc, ◌+◌, ◌-◌, ◌*◌, ◌/◌, ◌%◌, ◌≤◌, ◌<◌}
use mathlib.Core.Path.{◌≡◌, refl, ◌∙◌, ap}
use mathlib.Core.List.{List, [], ◌∷◌}
use mathlib.Core.Option.{some}
use lib.Dec.{ltb}
use lib.ListN.{length}
use native.Mathlib.Omega.{arith}
use borrow.Author.Tests.{ltb-true, ltb-false, le-leb, lt-leb, ne_eqb}
use Rattle.meaning.specs.Form.{IsBytes}
use Rattle.meaning.proofs.Tests.{on_bool}
use Rattle.notation.specs.declared.Kind.TheVariants.{Plain}
use Rattle.notation.specs.Words.{hex_digit, hex, hex_value, hex_bytes, and_then}
use Rattle.notation.specs.Grammar.{kind_of}

-- ---- one digit

value_figure : (c : ℕ) → 0x30 ≤ c → c ≤ 0x39 → hex_value c ≡ some (c - 0x30)
unfolding hex_value
value_figure c h i = rw (le-leb 0x30 c h, le-leb c 0x39 i, hex_value)

value_letter : (c : ℕ) → 0x61 ≤ c → c ≤ 0x66 → hex_value c ≡ some (c - 0x57)
unfolding hex_value
value_letter c h i = rw (le-leb 0x30 c (omega arith), lt-leb c 0x39 (omega arith), le-leb 0x61 c h, le-leb c 0x66 i, hex_value)

-- the digit of a number below 16 has that number as its value
pub digit_back : (d : ℕ) → d < 16 → hex_value (hex_digit d) ≡ some d
unfolding hex_digit
digit_back d h =
    on_bool (ltb d 10)
    (λ e. let l : d < 10 = ltb-true d 10 e in let s : 0x30 + d - 0x30 ≡ d = omega arith in rw (e, hex_digit) (value_figure (0x30 + d) (omega arith) (omega arith) ∙ ap some s))
    (λ e. let l : 10 ≤ d = ltb-false d 10 e in let s : 0x57 + d - 0x57 ≡ d = omega arith in rw (e, hex_digit) (value_letter (0x57 + d) (omega arith) (omega arith) ∙ ap some s))

-- a byte that is above all brackets, quotes and blanks is plain
pub high_plain : (c : ℕ) → 0x2a ≤ c → kind_of c ≡ Plain
unfolding kind_of
high_plain c h =
    rw (
      ne_eqb c 0x20 (omega arith),
      ne_eqb c 0x28 (omega arith),
      ne_eqb c 0x29 (omega arith),
      ne_eqb c 0x22 (omega arith),
      ne_eqb c 0x09 (omega arith),
      ne_eqb c 0x0a (omega arith),
      ne_eqb c 0x0d (omega arith),
      kind_of,
    )

pub digit_plain : (d : ℕ) → kind_of (hex_digit d) ≡ Plain
unfolding hex_digit
digit_plain d = on_bool (ltb d 10) (λ e. rw (e, hex_digit) (high_plain (0x30 + d) (omega arith))) (λ e. rw (e, hex_digit) (high_plain (0x57 + d) (omega arith)))

-- ---- whole bytes

two_digits : (c d h l : ℕ) (ds bs : List ℕ) → hex_value c ≡ some h → hex_value d ≡ some l → hex_bytes ds ≡ some bs → hex_bytes (c ∷ d ∷ ds) ≡ some ((16 * h + l) ∷ bs)
unfolding hex_bytes and_then
two_digits c d h l ds bs p q r = rw (p, q, r)

-- bytes are read back from their hex digits
pub hex_back : (bs : List ℕ) → IsBytes bs → hex_bytes (hex bs) ≡ some bs
unfolding hex IsBytes hex_bytes
hex_back [] h = refl
hex_back (b ∷ bs) h =
    let l : b < 256 = h 0 in
    let s : 16 * (b / 16) + b % 16 ≡ b = omega arith in
    two_digits (hex_digit (b / 16)) (hex_digit (b % 16)) (b / 16) (b % 16) (hex bs) bs (digit_back (b / 16) (omega arith)) (digit_back (b % 16) (omega arith)) (hex_back bs (λ i. h (suc i)))
    ∙ ap (λ x. some (x ∷ bs)) s

pub hex_length : (bs : List ℕ) → length (hex bs) ≡ 2 * length bs
unfolding hex
hex_length [] = refl
hex_length (b ∷ bs) = let e : length (hex bs) ≡ 2 * length bs = hex_length bs in omega arith
