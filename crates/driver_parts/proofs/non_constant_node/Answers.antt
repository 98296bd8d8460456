-- non_constant_node: one line a need; the lemmas are in Parts.
use Rattle.driver_parts.proofs.Parts as parts
use Rattle.driver_parts.proofs.non_constant_node.Goals as goal

pub look_node-requires-in-Pair : goal.look_node-requires-in-Pair
look_node-requires-in-Pair c = search parts.head_room

pub is_byte_node-requires : goal.is_byte_node-requires
is_byte_node-requires c = search parts.head_room

pub returns-in-Atom-look_node : goal.returns-in-Atom-look_node
returns-in-Atom-look_node c = search parts.counts_atom

pub returns-in-Pair-look_node : goal.returns-in-Pair-look_node
returns-in-Pair-look_node c = search parts.counts_pair

pub returns-in-Atom : goal.returns-in-Atom
returns-in-Atom c = search parts.counts_none
