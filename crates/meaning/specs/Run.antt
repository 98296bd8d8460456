-- The whole of a run: from the form's bytes, and the lengths of the lent room and output, to its outcome.
use Rattle.std.specs.Prelude.{ℕ, List, [], ◌∷◌, Bool, true, false, length}
use Rattle.meaning.specs.Tree.{Tree}
use Rattle.meaning.specs.Limits.{nesting_limit}
use Rattle.meaning.specs.Meter.{Out, done, stop, Spent, Log}
use Rattle.meaning.specs.Form.{Reading, read_form}
use Rattle.meaning.specs.Driver.{optimize_sexp, ends}
use Rattle.meaning.specs.Outcome.{Outcome, plain, answered, deliver_tree, ended, in_room}

-- "The mark is 1 if .. Otherwise 0"
unfoldable pub mark_number : Bool → ℕ
mark_number true = 1
mark_number false = 0

-- "An answer returns length, passes, units and mark", and writes these bytes
abbrev pub finished : List ℕ → ℕ → ℕ → Bool → Outcome
finished bytes passes units mark = answered bytes plain (length bytes ∷ passes ∷ units ∷ mark_number mark ∷ [])

-- what a run has spent when its form is read
abbrev pub after_reading : Reading → Spent
after_reading r = record { units = r.units; passes = 0; mark = false }

-- `optimize_sexp` of the tree that was read, or the reader's refusal
unfoldable pub worked_on : Out Reading Tree → Out Spent Tree
unfolding optimize_sexp
worked_on (done t r) = optimize_sexp nesting_limit t (after_reading r)
worked_on (stop n r) = stop n (after_reading r)

-- the work on a form
unfoldable pub worked : List ℕ → Out Spent Tree
unfolding read_form worked_on
worked form = worked_on (read_form form 0)

-- the passes that rules ended in the work on a form, thrown-away work included: none where the reader refuses it
unfoldable pub ends_on : Out Reading Tree → Log
unfolding ends
ends_on (done t r) = ends nesting_limit t (after_reading r)
ends_on (stop n r) = []

unfoldable pub ends_in : List ℕ → Log
unfolding read_form ends_on
ends_in form = ends_on (read_form form 0)

-- the finished tree, and what the run took
unfoldable pub deliver_run : ℕ → Tree → Spent → Outcome
unfolding deliver_tree mark_number
deliver_run out-length t s = deliver_tree out-length t (s.passes ∷ s.units ∷ mark_number s.mark ∷ [])

-- the form, how many bytes of room are lent, how many of output
unfoldable pub run : List ℕ → ℕ → ℕ → Outcome
unfolding worked deliver_run ended in_room
run form room-length out-length = in_room room-length (ended (deliver_run out-length) (worked form))
