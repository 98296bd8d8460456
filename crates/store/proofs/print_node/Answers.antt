-- print_node: an answer for each need; what carries weight stands in the laws.
use Rattle.store.proofs.Ready as ready
use Rattle.store.proofs.print_node.Goals as goal

pub look_node-requires : goal.look_node-requires
look_node-requires c = search ready.room

pub num8-requires : goal.num8-requires
num8-requires c = search ready.print_room

pub atom_bytes-requires : goal.atom_bytes-requires
atom_bytes-requires c = search ready.room

pub returns-in-Pair : goal.returns-in-Pair
returns-in-Pair c = search ready.print_pair

pub returns-in-Atom : goal.returns-in-Atom
returns-in-Atom c = search ready.print_atom
