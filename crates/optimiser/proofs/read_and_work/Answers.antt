-- read_and_work: the form, and then the driver.
use Rattle.std.proofs.lemmas.Result.{err_from_is_err_and}
use Rattle.optimiser.proofs.Working as laws
use Rattle.optimiser.proofs.read_and_work.Goals as goal

pub optimize_node-w-requires : goal.optimize_node-w-requires
optimize_node-w-requires c = (search (laws.read_ready, c.in_ok-tree.was), search (laws.read_patterned, c.in_ok-tree.was), search laws.row_known)

pub returns-in_err-tree : goal.returns-in_err-tree
returns-in_err-tree c = let p = err_from_is_err_and c.from_residual.result c.from_residual.ensures.1 in rw (p.1, p.2) (search (laws.read_refused, c.in_err-tree.was))

pub returns : goal.returns
returns c = search (laws.read_worked, c.in_ok-tree.was)
