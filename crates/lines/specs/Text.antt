-- What printing leaves in the text that waits.
use Rattle.std.specs.Prelude.{ℕ, zero, suc, ◌+◌, ◌/◌, ◌≤◌, ◌≡◌, true, false, List, [], ◌∷◌, ◌++◌, ltb, length, take}
use Rattle.io.specs.Digits.{last_digits}
use Rattle.lines.specs.Hex.{hex_of}

-- as many bytes as an output may have, and as many as a line may have then: two for each, a word, three numbers, the line's end
abbrev pub out_most : ℕ
out_most = 32_768

abbrev pub line_most : ℕ
line_most = 65_664

-- what waited up to `at` still waits; or it was written, and nothing waits
pub data Waits (at r : ℕ) : Type 0 where
  still : r ≡ at → Waits at r
  written : r ≡ 0 → Waits at r

-- there is room for a line
pub record Cleared (text : List ℕ) (at r : ℕ) : Type 0 where
  pub waits : Waits at r
  pub room : r + line_most ≤ length text

-- what waits after is what waited before and then the line; or the line alone, where what waited was written
pub data Adds (line before after : List ℕ) : Type 0 where
  behind : after ≡ before ++ line → Adds line before after
  alone : after ≡ line → Adds line before after

-- `new` was printed after text[..at]: where there was room it stands there, up to r; where there was none the text was written and began anew
pub record Printed (new text text' : List ℕ) (at r : ℕ) : Type 0 where
  pub long : length text' ≡ length text
  pub within : at ≤ length text → r ≤ length text'
  pub stands : at + length new ≤ length text → take r text' ≡ take at text ++ new
  pub next : at + length new ≤ length text → r ≡ at + length new

-- `ok` and the tree
unfoldable pub ok_tree : List ℕ → List ℕ
unfolding hex_of
ok_tree bs = 111 ∷ 107 ∷ 32 ∷ hex_of bs

-- how many decimal digits a number has, from 1 to one more than the first argument
unfoldable pub places : ℕ → ℕ → ℕ
places zero n = 1
places (suc more) n = elim (ltb n 10) [ true ↦ 1 | false ↦ suc (places more (n / 10)) ]

-- the decimal digits of a number of 64 bits
unfoldable pub decimal_of : ℕ → List ℕ
unfolding places
decimal_of n = last_digits 10 (places 19 n) n

-- a blank and the number
unfoldable pub blank_decimal : ℕ → List ℕ
unfolding decimal_of
blank_decimal n = 32 ∷ decimal_of n

-- a blank and each number
unfoldable pub numbers_text : List ℕ → List ℕ
unfolding blank_decimal
numbers_text [] = []
numbers_text (n ∷ ns) = blank_decimal n ++ numbers_text ns

-- the end of a line: numbers and the newline
unfoldable pub numbers_line : List ℕ → List ℕ
unfolding numbers_text
numbers_line ns = numbers_text ns ++ (10 ∷ [])

-- `no` and the number
unfoldable pub no_number : ℕ → List ℕ
unfolding numbers_line
no_number n = 110 ∷ 111 ∷ numbers_line (n ∷ [])

-- `no line`
unfoldable pub no_line : List ℕ
no_line = 110 ∷ 111 ∷ 32 ∷ 108 ∷ 105 ∷ 110 ∷ 101 ∷ 10 ∷ []
