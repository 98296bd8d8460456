-- What is printed for two lines.
use Rattle.std.specs.Prelude.{ℕ, true, false, ◌&&◌, List, [], ◌∷◌, ◌++◌, eqb, leb, get_or, drop}
use Rattle.refusals.specs.Numbers.{number_of}
use Rattle.meaning.specs.Run.{mark_number}
use Rattle.lines.specs.Hex.{hex_of}
use Rattle.lines.specs.Text.{numbers_line, no_number, no_line}
use Rattle.rule_line.specs.Said.{Said, same, changed, refused, said}

-- `same` or `changed` and the tree, units and mark; or `no` and the refusal's number
unfoldable pub line_of : Said → List ℕ
unfolding numbers_line hex_of no_number mark_number
line_of (same units mark) = (115 ∷ 97 ∷ 109 ∷ 101 ∷ []) ++ numbers_line (units ∷ mark_number mark ∷ [])
line_of (changed bytes units mark) = (99 ∷ 104 ∷ 97 ∷ 110 ∷ 103 ∷ 101 ∷ 100 ∷ 32 ∷ []) ++ (hex_of bytes ++ numbers_line (units ∷ mark_number mark ∷ []))
line_of (refused n) = no_number (number_of n)

-- the rule that the first line's bytes name: one byte up to 8; 0 is none
unfoldable pub rule_of : List ℕ → ℕ → ℕ
rule_of both first = elim (eqb first 1 && leb (get_or both 0 0) 8) [ true ↦ get_or both 0 0 | false ↦ 0 ]

-- both lines' bytes, how many of them are the first's, and the output's length
unfoldable pub rule_line : List ℕ → ℕ → ℕ → List ℕ
unfolding no_line rule_of line_of said
rule_line both first out-length = elim (eqb (rule_of both first) 0) [
  | true ↦ no_line
  | false ↦ line_of (said (rule_of both first) (drop 1 both) out-length)
]
