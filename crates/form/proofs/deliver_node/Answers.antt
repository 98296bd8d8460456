-- deliver_node: measured, then written.
use Rattle.form.proofs.Delivering as laws
use borrow.Author.Rules.{rules}
use Rattle.form.proofs.deliver_node.Goals as goal

pub write_node-requires : goal.write_node-requires
write_node-requires c = (search rules, search (laws.all_fits, c.in_ok-length_node.was))

pub returns-in_err-length_node : goal.returns-in_err-length_node
returns-in_err-length_node c = rw c.from_residual.ensures (search (laws.none_written, c.in_err-length_node.was))

pub returns : goal.returns
returns c = search (laws.all_written, c.in_ok-length_node.was)
