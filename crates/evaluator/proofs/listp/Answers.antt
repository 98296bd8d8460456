-- listp: an answer for each need; what carries weight stands in the laws.
use Rattle.evaluator.proofs.Operators as operators
use Rattle.store.proofs.Ready.{room}
use Rattle.evaluator.proofs.listp.Goals as goal

pub look_node-requires : goal.look_node-requires
look_node-requires c = search room

pub returns-in-Pair : goal.returns-in-Pair
returns-in-Pair c = search operators.listp_pair

pub returns-in-Atom : goal.returns-in-Atom
returns-in-Atom c = search operators.listp_atom
