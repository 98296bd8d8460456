-- cons_node: an answer for each need; what carries weight stands in the laws.
use Rattle.substitute.proofs.Part as part
use Rattle.substitute.proofs.cons_node.Goals as goal

pub call_node-requires : goal.call_node-requires
call_node-requires c = search part.cons_args

pub returns-in-Some : goal.returns-in-Some
returns-in-Some c = search part.cons_found

pub returns-in-None : goal.returns-in-None
returns-in-None c = search part.cons_called
