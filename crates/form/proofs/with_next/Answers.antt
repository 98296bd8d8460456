-- with_next: an answer for each need; what carries weight stands in the laws.
use Rattle.form.proofs.Reader as laws
use Rattle.std.proofs.lemmas.Result.{err_from_is_err_and}
use Rattle.form.proofs.with_next.Goals as goal

pub returns : goal.returns
returns c = search (laws.next_node, c.in_ok-node.was)

pub returns-in_err-node : goal.returns-in_err-node
returns-in_err-node c = let p = err_from_is_err_and c.from_residual.result c.from_residual.ensures.1 in rw (p.1, p.2) (laws.next_refused _ _ _ c.in_err-node.was)
