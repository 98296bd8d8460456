-- Reading and writing on bytes alone: from the form's bytes, and the lengths of the lent room and output, to the outcome.
use Rattle.refusals.specs.declared.Refusal.{Refusal}
use Rattle.std.specs.Prelude.{Result, Ok, Err}
use Rattle.std.specs.Prelude.{ℕ, List, [], ◌∷◌}
use Rattle.refusals.specs.Numbers.{number_of}
use Rattle.meaning.specs.Tree.{Tree}
use Rattle.meaning.specs.Form.{Reading, read_form}
use Rattle.meaning.specs.Outcome.{Outcome, plain, answered, deliver_tree, ended, in_room, Told, values, number}
use Rattle.form.specs.declared.Written.{Written}

-- reading writes nothing, and tells the units
unfoldable pub delivered_read : Tree → Reading → Outcome
delivered_read t s = answered [] plain (s.units ∷ [])

-- the form, and how many bytes of room are lent
unfoldable pub read_outcome : List ℕ → ℕ → Outcome
unfolding delivered_read read_form ended in_room
read_outcome form room-length = in_room room-length (ended delivered_read (read_form form 0))

-- the tree written again: length and units
unfoldable pub delivered_write : ℕ → Tree → Reading → Outcome
unfolding deliver_tree
delivered_write out-length t s = deliver_tree out-length t (s.units ∷ [])

-- the form, how many bytes of room are lent, how many of output
unfoldable pub write_outcome : List ℕ → ℕ → ℕ → Outcome
unfolding delivered_write read_form ended in_room
write_outcome form room-length out-length = in_room room-length (ended (delivered_write out-length) (read_form form 0))

-- what `read` says: units
unfoldable pub read_says : Result ℕ Refusal → Told
read_says (Ok units) = values plain (units ∷ [])
read_says (Err n) = number (number_of n)

-- what `write` says: length and units
unfoldable pub write_says : Result Written Refusal → Told
write_says (Ok a) = values plain (a.length ∷ a.units ∷ [])
write_says (Err n) = number (number_of n)
