-- What is printed for an outcome: one line. Document 01, "Forms on both sides".
use Rattle.std.specs.Prelude.{ℕ, List, ◌++◌, drop}
use Rattle.refusals.specs.Numbers.{number_of}
use Rattle.meaning.specs.Outcome.{Outcome, answered, refused}
use Rattle.lines.specs.Text.{ok_tree, numbers_line, no_number}

-- the line of an outcome, where `ok` is that of an answer; "or `no` and the number"
unfoldable pub line_with : (List ℕ → List ℕ → List ℕ) → Outcome → List ℕ
unfolding no_number
line_with ok (answered bytes tag ns) = ok bytes ns
line_with ok (refused n) = no_number (number_of n)

-- "`ok`, the tree in hex, passes, units, mark": the tree and the numbers after its length
unfoldable pub ok_line : List ℕ → List ℕ → List ℕ
unfolding ok_tree numbers_line
ok_line bytes ns = ok_tree bytes ++ numbers_line ns

-- the line of an outcome that delivers a tree, and tells its length first
unfoldable pub line_of : Outcome → List ℕ
unfolding line_with ok_line
line_of o = line_with (λ bytes ns. ok_line bytes (drop 1 ns)) o
