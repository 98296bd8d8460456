-- Lower-case hex: the bytes that a line of digits stands for, and the digits of bytes.
use Rattle.std.specs.Prelude.{ℕ, ◌+◌, ◌*◌, ◌-◌, ◌/◌, ◌%◌, true, false, List, [], ◌∷◌, leb, ltb}
use Rattle.std.specs.Prelude as rust
use Rattle.std.specs.Prelude.{Some, None}
use Rattle.std.proofs.Math.Option.{Option, some, none}
use Rattle.io.specs.Digits.{hex_digit_ascii}

-- the value of a lower-case hex digit, `0` to `9` and `a` to `f`; none for any other byte
unfoldable pub digit_of : ℕ → rust.Option ℕ
digit_of x =
    elim (ltb x 48) [
      | true ↦ None
      | false ↦ elim (leb x 57) [
        | true ↦ Some (x - 48)
        | false ↦ elim (ltb x 97) [ true ↦ None | false ↦ elim (leb x 102) [ true ↦ Some (x - 87) | false ↦ None ] ]
      ]
    ]

-- a byte before the others, where there are any
unfoldable pub before : ℕ → Option (List ℕ) → Option (List ℕ)
before x none = none
before x (some bs) = some (x ∷ bs)

-- the byte of two digits before the others; nothing where either is no digit
unfoldable pub two_before : rust.Option ℕ → rust.Option ℕ → Option (List ℕ) → Option (List ℕ)
unfolding before
two_before (Some x) (Some y) others = before (x * 16 + y) others
two_before (Some x) None others = none
two_before None y others = none

-- what a line stands for: two digits a byte; nothing where it is not an even count of digits
unfoldable pub decode : List ℕ → Option (List ℕ)
unfolding digit_of two_before
decode [] = some []
decode (a ∷ []) = none
decode (a ∷ b ∷ line) = two_before (digit_of a) (digit_of b) (decode line)

-- the digits of bytes, two for each
unfoldable pub hex_of : List ℕ → List ℕ
hex_of [] = []
hex_of (x ∷ bs) = hex_digit_ascii (x / 16) ∷ hex_digit_ascii (x % 16) ∷ hex_of bs
