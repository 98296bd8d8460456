-- head_node: an answer for each need; what carries weight stands in the laws.
use Rattle.evaluator.proofs.Heads as heads
use Rattle.evaluator.proofs.head_node.Goals as goal

pub returns-in-Pair : goal.returns-in-Pair
returns-in-Pair c = search heads.head_pair

pub returns-in-Atom : goal.returns-in-Atom
returns-in-Atom c = search heads.head_atom
