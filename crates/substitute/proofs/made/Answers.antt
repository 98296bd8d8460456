-- made: an answer for each need; what carries weight stands in the laws.
use Rattle.substitute.proofs.Bought as bought
use Rattle.std.proofs.lemmas.Result.{err_from_is_err_and}
use Rattle.substitute.proofs.made.Goals as goal

pub returns-in_err-node : goal.returns-in_err-node
returns-in_err-node c = let p = err_from_is_err_and c.from_residual.result c.from_residual.ensures.1 in rw (p.1, p.2) (bought.sub_refused _ _ _ c.in_err-node.was)

pub returns : goal.returns
returns c = search (bought.sub_node, c.in_ok-node.was)
