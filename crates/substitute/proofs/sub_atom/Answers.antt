-- sub_atom: an answer for each need; what carries weight stands in the laws.
use Rattle.substitute.proofs.Turns as turns
use Rattle.substitute.proofs.Answers as answers
use Rattle.substitute.proofs.sub_atom.Goals as goal

pub low_node-low-requires : goal.low_node-low-requires
low_node-low-requires c = search turns.named_room

pub returns : goal.returns
returns c = search answers.atom_done
