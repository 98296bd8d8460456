-- What is printed for an outcome that delivers a tree's text: one line, with the text as it stands.
use Rattle.std.specs.Prelude.{ℕ, zero, suc, List, [], ◌∷◌, ◌++◌, drop}
use Rattle.meaning.specs.Outcome.{Outcome}
use Rattle.lines.specs.Text.{numbers_line}
use Rattle.outcome.specs.Line.{line_with}

-- `ok` and the text
unfoldable pub ok_text : List ℕ → List ℕ
ok_text bytes = 111 ∷ 107 ∷ 32 ∷ bytes

-- `ok`, the text, and numbers
unfoldable pub text_and : List ℕ → List ℕ → List ℕ
unfolding ok_text numbers_line
text_and bytes ns = ok_text bytes ++ numbers_line ns

-- the text and the numbers after its length: passes, units and mark; or steps and units
unfoldable pub text_line : Outcome → List ℕ
unfolding line_with text_and
text_line o = line_with (λ bytes ns. text_and bytes (drop 1 ns)) o

-- the text alone
unfoldable pub bare_line : Outcome → List ℕ
unfolding line_with text_and
bare_line o = line_with (λ bytes ns. text_and bytes []) o

-- `at` and the place; or `no fault`
unfoldable pub fault_words : List ℕ → List ℕ
unfolding numbers_line
fault_words [] = []
fault_words (zero ∷ ns) = 110 ∷ 111 ∷ 32 ∷ 102 ∷ 97 ∷ 117 ∷ 108 ∷ 116 ∷ 10 ∷ []
fault_words (suc k ∷ ns) = 97 ∷ 116 ∷ numbers_line ns

-- where a text stops
unfoldable pub fault_line : Outcome → List ℕ
unfolding line_with fault_words
fault_line o = line_with (λ bytes ns. fault_words ns) o
