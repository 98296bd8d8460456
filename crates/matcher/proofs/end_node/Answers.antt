-- end_node: the length where what remains allows it.
use Rattle.matcher.proofs.Written as laws
use Rattle.matcher.proofs.end_node.Goals as goal

pub overflow_add-result : goal.overflow_add-result
overflow_add-result c = search (laws.end_fits, c.in_ok-k.was)

pub returns-in_err-k : goal.returns-in_err-k
returns-in_err-k c = rw c.from_residual.ensures (search (laws.end_over, c.in_err-k.was))

pub returns : goal.returns
returns c = search (laws.end_long, c.in_ok-k.was)
