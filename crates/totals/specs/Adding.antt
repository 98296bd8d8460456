-- What `add_form` does: the report after, the form's column, and every byte of the room.
use Rattle.std.specs.Prelude.{ℕ, ◌≡◌, List, true, false, length, replicate}
use Rattle.refusals.specs.declared.Refusal.TheVariants.{ReportFull}
use Rattle.refusals.specs.Numbers.{number_of}
use Rattle.meaning.specs.Meter.{Log}
use Rattle.meaning.specs.Outcome.{Outcome, answered, refused, room_after}
use Rattle.meaning.specs.Run.{run, ends_in}
use Rattle.run_state.specs.declared.Notes.TheVariants.{Counts}
use Rattle.run_state.specs.Notes.{Noted}
use Rattle.totals.specs.declared.Savings.{Savings}
use Rattle.totals.specs.declared.Column.{Column}
use Rattle.totals.specs.declared.Column.TheVariants.{Answered, Refused, Full}
use Rattle.totals.specs.declared.Added.{Added}
use Rattle.totals.specs.Savings.{output_most, with_outcome, with_form, is_open}

-- the number of a column: 0 for answered, a refusal's own, 17 for none
unfoldable pub number_in : Column → ℕ
number_in Answered = 0
number_in (Refused n) = number_of n
number_in Full = number_of ReportFull

-- where a form stands
unfoldable pub column_of : Outcome → Column
column_of (answered bytes tag numbers) = Answered
column_of (refused n) = Refused n

-- the rows' counts are those of a log, from none on
unfoldable pub Counted : List (List ℕ) → Log → Type 0
Counted row l = Noted Counts (replicate 256 (replicate {A = ℕ} 6 0)) row l

-- a form's outcome is worked into the report
pub record Placed (s : Savings) (form : List ℕ) (o : Outcome) (r : Added) : Type 0 where
  pub savings : r.savings ≡ with_outcome s form (ends_in form) o
  pub column : r.column ≡ column_of o

-- the report, the column and the room after: of a report that takes another form. The room held `old`, and now `new`
pub record Takes (s : Savings) (form old new : List ℕ) (r : Added) : Type 0 where
  pub savings : r.savings ≡ with_form (length old) s form
  pub column : r.column ≡ column_of (run form (length old) output_most)
  pub room : new ≡ room_after (run form (length old) output_most) old

-- and of one that takes none: 17
pub record Leaves (s : Savings) (old new : List ℕ) (r : Added) : Type 0 where
  pub savings : r.savings ≡ s
  pub column : r.column ≡ Full
  pub room : new ≡ room_after (refused ReportFull) old

-- the promise of `add_form`: the report, the form and the room before; the room after; the report after and the form's column
unfoldable pub Adds : Savings → List ℕ → List ℕ → List ℕ → Added → Type 0
Adds s form room room' r = elim (is_open s) [ true ↦ Takes s form room room' r | false ↦ Leaves s room room' r ]
