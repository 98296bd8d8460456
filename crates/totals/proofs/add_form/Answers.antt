-- add_form: one line a need; the laws are in Placing.
use borrow.Author.Rules.{rules}
use Rattle.totals.proofs.Placing as placing
use Rattle.totals.proofs.add_form.Goals as goal

pub returns-then-not-is_open : goal.returns-then-not-is_open
returns-then-not-is_open c = search placing.adds_none

pub refused-requires : goal.refused-requires
refused-requires c = (search placing.add_open, search rules)

pub returns-then-room-lt-ROOM : goal.returns-then-room-lt-ROOM
returns-then-room-lt-ROOM c = search placing.adds_small

pub place-a-requires : goal.place-a-requires
place-a-requires c = (search placing.add_open, search rules, search placing.row_long, search placing.row_counted)

pub returns : goal.returns
returns c = search placing.adds_worked
