-- same: an answer for each need; what carries weight stands in the laws.
use Rattle.evaluator.proofs.Operators as operators
use Rattle.store.proofs.Ready.{room}
use Rattle.evaluator.proofs.same.Goals as goal

pub look_node-requires : goal.look_node-requires
look_node-requires c = search room

pub look_node-requires-in-Atom : goal.look_node-requires-in-Atom
look_node-requires-in-Atom c = search room

pub same_atoms-yes-requires : goal.same_atoms-yes-requires
same_atoms-yes-requires c = (search room, search room)

pub returns-in-Pair : goal.returns-in-Pair
returns-in-Pair c = search operators.same_pair

pub returns-in-Pair-look_node : goal.returns-in-Pair-look_node
returns-in-Pair-look_node c = search operators.same_atom_pair

pub returns-in-Atom-look_node : goal.returns-in-Atom-look_node
returns-in-Atom-look_node c = search operators.same_atoms
