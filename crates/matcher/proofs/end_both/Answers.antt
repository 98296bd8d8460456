-- end_both: one end after the other.
use borrow.Author.Rules.{rules}
use Rattle.matcher.proofs.Written as laws
use Rattle.matcher.proofs.end_both.Goals as goal

pub end_node-requires-2 : goal.end_node-requires-2
end_node-requires-2 c = (search rules, search (laws.mid_fits, c.in_ok-mid.was))

pub returns-in_err-mid : goal.returns-in_err-mid
returns-in_err-mid c = rw c.from_residual.ensures (search (laws.first_over, c.in_err-mid.was))

pub returns-in_err-end : goal.returns-in_err-end
returns-in_err-end c = rw c.from_residual-in_err-end.ensures (search (laws.second_over, c.in_ok-mid.was, c.in_err-end.was))

pub returns : goal.returns
returns c = search (laws.both_end, c.in_ok-mid.was, c.in_ok-end.was)
