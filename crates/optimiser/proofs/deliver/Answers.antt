-- deliver: by what deliver_node says.
use Rattle.std.proofs.lemmas.Result.{err_from_is_err_and}
use Rattle.optimiser.proofs.Bytes as laws
use Rattle.optimiser.proofs.deliver.Goals as goal

pub deliver_node-requires : goal.deliver_node-requires
deliver_node-requires c = search (laws.deliver_writable, c.in_ok-node.was)

pub returns-in_err-node : goal.returns-in_err-node
returns-in_err-node c = let p = err_from_is_err_and c.from_residual.result c.from_residual.ensures.1 in rw (p.1, p.2) (search (laws.deliver_refused, c.in_err-node.was))

pub returns-in-None : goal.returns-in-None
returns-in-None c = search (laws.deliver_short, c.in_ok-node.was)

pub returns-in-Some : goal.returns-in-Some
returns-in-Some c = search (laws.deliver_done, c.in_ok-node.was)
