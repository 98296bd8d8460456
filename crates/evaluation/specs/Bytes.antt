-- Evaluation on bytes alone: from the bytes of both forms, and the lengths of the lent room and output, to the outcome.
use Rattle.std.specs.Prelude.{ℕ, List, [], ◌∷◌, take, drop, Result, Ok, Err}
use Rattle.refusals.specs.declared.Refusal.{Refusal}
use Rattle.refusals.specs.Numbers.{number_of}
use Rattle.meaning.specs.Tree.{Tree}
use Rattle.meaning.specs.Meter.{Out, done, stop, Steps}
use Rattle.meaning.specs.Evaluate.{evaluate}
use Rattle.meaning.specs.Form.{Reading}
use Rattle.meaning.specs.Outcome.{Outcome, plain, deliver_tree, ended, in_room, Told, values, number}
use Rattle.form.specs.Both.{Both, read_both}
use Rattle.evaluation.specs.declared.Evaluated.{Evaluated}

-- no step is taken yet
abbrev pub at_units : ℕ → Steps
at_units u = record { steps = 0; units = u }

-- the program that was read is evaluated in the environment that was read, or the reader's refusal
unfoldable pub worked_on : Out Reading Both → Out Steps Tree
unfolding evaluate
worked_on (done b r) = evaluate b.one b.other (at_units r.units)
worked_on (stop n r) = stop n (at_units r.units)

-- both forms are read, on one budget; and then the program is evaluated
unfoldable pub worked : List ℕ → List ℕ → Out Steps Tree
unfolding read_both worked_on
worked program environment = worked_on (read_both program environment)

-- the value written: length, steps and units
unfoldable pub delivered : ℕ → Tree → Steps → Outcome
unfolding deliver_tree
delivered out-length t s = deliver_tree out-length t (s.steps ∷ s.units ∷ [])

-- both forms, how many bytes the program's has, how many bytes of room are lent, how many of output
unfoldable pub outcome : List ℕ → ℕ → ℕ → ℕ → Outcome
unfolding worked delivered ended in_room
outcome forms first room-length out-length = in_room room-length (ended (delivered out-length) (worked (take first forms) (drop first forms)))

-- what `evaluate` says: length, steps and units
unfoldable pub says : Result Evaluated Refusal → Told
says (Ok a) = values plain (a.length ∷ a.steps ∷ a.units ∷ [])
says (Err n) = number (number_of n)
