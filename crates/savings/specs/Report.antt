-- What the program `savings` prints, and what it makes of a line.
use Rattle.std.specs.Prelude.{ℕ, ◌+◌, ◌≡◌, List, [], ◌∷◌, ◌++◌, Bool, true, false, not, length, take, get_or}
use Rattle.refusals.specs.declared.Refusal.TheVariants.{ReportFull}
use Rattle.refusals.specs.Numbers.{number_of}
use Rattle.lines.specs.declared.read.Got.{Got}
use Rattle.lines.specs.declared.read.Got.TheVariants.{Form, Bad, End}
use Rattle.lines.specs.Text.{Waits, Printed, numbers_line, no_number, no_line}
use Rattle.totals.specs.declared.Savings.{Savings}
use Rattle.totals.specs.Savings.{sum_from, fewer, with_form, is_open}
use Rattle.savings.specs.declared.Listed.{Listed}

-- ---- the report

-- the words that begin its lines
abbrev pub forms_word : List ℕ
forms_word = 102 ∷ 111 ∷ 114 ∷ 109 ∷ 115 ∷ []

abbrev pub answered_word : List ℕ
answered_word = 97 ∷ 110 ∷ 115 ∷ 119 ∷ 101 ∷ 114 ∷ 101 ∷ 100 ∷ []

abbrev pub refused_word : List ℕ
refused_word = 114 ∷ 101 ∷ 102 ∷ 117 ∷ 115 ∷ 101 ∷ 100 ∷ []

abbrev pub marked_word : List ℕ
marked_word = 109 ∷ 97 ∷ 114 ∷ 107 ∷ 101 ∷ 100 ∷ []

abbrev pub bytes_word : List ℕ
bytes_word = 98 ∷ 121 ∷ 116 ∷ 101 ∷ 115 ∷ []

abbrev pub passes_word : List ℕ
passes_word = 112 ∷ 97 ∷ 115 ∷ 115 ∷ 101 ∷ 115 ∷ []

abbrev pub rules_word : List ℕ
rules_word = 114 ∷ 117 ∷ 108 ∷ 101 ∷ 115 ∷ []

-- a word and numbers, as a line
abbrev pub row : List ℕ → List ℕ → List ℕ
row word numbers = word ++ numbers_line numbers

-- from the number k on: each that a form can be refused with, and how many were
unfoldable pub refused_text : ℕ → List ℕ → List ℕ
unfolding numbers_line
refused_text k [] = []
refused_text k (n ∷ ns) = row refused_word (k ∷ n ∷ []) ++ refused_text (k + 1) ns

-- the eight counts
abbrev pub rule_numbers : List ℕ → List ℕ
rule_numbers n = get_or n 0 0 ∷ get_or n 1 0 ∷ get_or n 2 0 ∷ get_or n 3 0 ∷ get_or n 4 0 ∷ get_or n 5 0 ∷ get_or n 6 0 ∷ get_or n 7 0 ∷ []

-- what is told of the answered forms
unfoldable pub totals_text : Savings → List ℕ
unfolding numbers_line
totals_text s = ((row marked_word (s.marked ∷ []) ++ row bytes_word (s.before ∷ s.after ∷ [])) ++ row passes_word (s.passes ∷ [])) ++ row rules_word (rule_numbers s.rules)

unfoldable pub report_text : Savings → List ℕ
unfolding numbers_line sum_from fewer refused_text totals_text
report_text s =
    ((row forms_word (fewer (sum_from s.answered s.refused) ∷ []) ++ row answered_word (s.answered ∷ [])) ++ refused_text 1 s.refused) ++ totals_text s

-- "Refusals: 17 for a 4,097th form; the report so far is still printed"
unfoldable pub last_text : Savings → List ℕ
unfolding report_text no_number
last_text s = report_text s ++ no_number (number_of ReportFull)

-- ---- a line

-- what is printed for a form: nothing, or the end where the report has no room for it
unfoldable pub form_text : Savings → List ℕ
unfolding last_text is_open
form_text s = elim (is_open s) [ true ↦ [] | false ↦ last_text s ]

-- the report after a form
unfoldable pub form_after : ℕ → Savings → List ℕ → Savings
unfolding with_form is_open
form_after room-length s form = elim (is_open s) [ true ↦ with_form room-length s form | false ↦ s ]

-- a form was worked in: the report, whether the list is over, what was printed
pub record Worked (s : Savings) (form room text text' : List ℕ) (at : ℕ) (r : Listed) : Type 0 where
  pub savings : r.savings ≡ form_after (length room) s form
  pub over : r.over ≡ not (is_open s)
  pub printed : Printed (form_text s) text text' at r.lines.put

-- a line of any kind, or the input's end
unfoldable pub line_text : Got → Savings → List ℕ
unfolding form_text no_line report_text
line_text Form s = form_text s
line_text Bad s = no_line
line_text End s = report_text s

unfoldable pub line_after : Got → ℕ → Savings → List ℕ → Savings
unfolding form_after
line_after Form room-length s form = form_after room-length s form
line_after Bad room-length s form = s
line_after End room-length s form = s

unfoldable pub line_over : Got → Savings → Bool
unfolding is_open
line_over Form s = not (is_open s)
line_over Bad s = false
line_over End s = true

-- the next line was taken: what it spells stands in forms. What waited, up to `put`, still waits or was written, and then this was printed
pub record Turned (s : Savings) (put : ℕ) (forms room text text' : List ℕ) (r : Listed) : Type 0 where
  pub savings : r.savings ≡ line_after r.lines.got (length room) s (take r.lines.n forms)
  pub over : r.over ≡ line_over r.lines.got s
  pub from : ℕ
  pub waits : Waits put from
  pub printed : Printed (line_text r.lines.got s) text text' from r.lines.put
