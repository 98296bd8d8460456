-- same_node: an answer for each need; what carries weight stands in the laws.
use Rattle.store.proofs.Ready as ready
use Rattle.store.proofs.same_node.Goals as goal

pub returns-in-Pair : goal.returns-in-Pair
returns-in-Pair c = search ready.same_pair

pub returns-in-Atom : goal.returns-in-Atom
returns-in-Atom c = search ready.same_atom
