-- place: one line a need; the laws are in Placing.
use borrow.Author.Rules.{rules}
use Rattle.totals.proofs.Placing as placing
use Rattle.totals.proofs.place.Goals as goal

pub refused-requires : goal.refused-requires
refused-requires c = (search rules, search placing.stop_low)

pub length_node-requires : goal.length_node-requires
length_node-requires c = search placing.place_writable

pub with_answer-requires : goal.with_answer-requires
with_answer-requires c = (search rules, search placing.before_most, search placing.after_most, search rules)

pub returns-in-Err : goal.returns-in-Err
returns-in-Err c = search placing.placed_stop

pub returns-in-None : goal.returns-in-None
returns-in-None c = search placing.placed_over

pub returns-in-Some : goal.returns-in-Some
returns-in-Some c = search placing.placed_answer
