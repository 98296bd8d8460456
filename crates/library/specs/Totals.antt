-- The running report of `add_form` as C sees it: 27 numbers.
use Rattle.std.specs.Prelude.{ℕ, ◌≡◌, List, [], ◌∷◌, true, false, length, get_or}
use Rattle.refusals.specs.declared.Refusal.TheVariants.{ReportFull}
use Rattle.meaning.specs.Outcome.{Outcome, refused, room_after}
use Rattle.meaning.specs.Run.{run}
use Rattle.totals.specs.declared.Savings.{Savings}
use Rattle.totals.specs.declared.Column.{Column}
use Rattle.totals.specs.declared.Column.TheVariants.{Full}
use Rattle.totals.specs.Savings.{output_most, with_form, is_open}
use Rattle.totals.specs.Adding.{number_in, column_of}

-- answered; refused by each of the numbers 1 to 14; marked; bytes before and after; passes; each of the eight rules
unfoldable pub savings_in : List ℕ → Savings
savings_in q = record {
  answered = get_or q 0 0;
  refused = get_or q 1 0 ∷ get_or q 2 0 ∷ get_or q 3 0 ∷ get_or q 4 0 ∷ get_or q 5 0 ∷ get_or q 6 0 ∷ get_or q 7 0 ∷ get_or q 8 0 ∷ get_or q 9 0 ∷ get_or q 10 0 ∷ get_or q 11 0 ∷ get_or q 12 0 ∷ get_or q 13 0 ∷ get_or q 14 0 ∷ [];
  marked = get_or q 15 0;
  before = get_or q 16 0;
  after = get_or q 17 0;
  passes = get_or q 18 0;
  rules = get_or q 19 0 ∷ get_or q 20 0 ∷ get_or q 21 0 ∷ get_or q 22 0 ∷ get_or q 23 0 ∷ get_or q 24 0 ∷ get_or q 25 0 ∷ get_or q 26 0 ∷ [];
}

-- and back
unfoldable pub numbers_of : Savings → List ℕ
numbers_of s =
    s.answered
    ∷ get_or s.refused 0 0 ∷ get_or s.refused 1 0 ∷ get_or s.refused 2 0 ∷ get_or s.refused 3 0 ∷ get_or s.refused 4 0 ∷ get_or s.refused 5 0 ∷ get_or s.refused 6 0 ∷ get_or s.refused 7 0 ∷ get_or s.refused 8 0 ∷ get_or s.refused 9 0 ∷ get_or s.refused 10 0 ∷ get_or s.refused 11 0 ∷ get_or s.refused 12 0 ∷ get_or s.refused 13 0
    ∷ s.marked ∷ s.before ∷ s.after ∷ s.passes
    ∷ get_or s.rules 0 0 ∷ get_or s.rules 1 0 ∷ get_or s.rules 2 0 ∷ get_or s.rules 3 0 ∷ get_or s.rules 4 0 ∷ get_or s.rules 5 0 ∷ get_or s.rules 6 0 ∷ get_or s.rules 7 0 ∷ []

-- the report after a form: as it came in where it takes none
unfoldable pub report_after : ℕ → List ℕ → List ℕ → List ℕ
unfolding savings_in numbers_of is_open with_form
report_after room-length q form = elim (is_open (savings_in q)) [ true ↦ numbers_of (with_form room-length (savings_in q) form) | false ↦ q ]

-- the form's column: none where the report takes none
unfoldable pub column_in : ℕ → List ℕ → List ℕ → Column
unfolding savings_in is_open column_of run
column_in room-length q form = elim (is_open (savings_in q)) [ true ↦ column_of (run form room-length output_most) | false ↦ Full ]

-- the form's outcome: 17 there
unfoldable pub outcome_in : ℕ → List ℕ → List ℕ → Outcome
unfolding savings_in is_open run
outcome_in room-length q form = elim (is_open (savings_in q)) [ true ↦ run form room-length output_most | false ↦ refused ReportFull ]

-- the promise of `umlazgrin_add_form`: the form; the room s and the report q before, s' and q' after; the number n that is returned
pub record Totals (form s s' q q' : List ℕ) (n : ℕ) : Type 0 where
  pub returns : n ≡ number_in (column_in (length s) q form)
  pub reports : q' ≡ report_after (length s) q form
  pub room : s' ≡ room_after (outcome_in (length s) q form) s
