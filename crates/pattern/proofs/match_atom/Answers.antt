-- match_atom: the expression's cell, then its bytes.
use Rattle.store.proofs.Ready.{room}
use Rattle.pattern.proofs.Kept as kept
use Rattle.pattern.proofs.Laws as laws
use Rattle.pattern.proofs.match_atom.Goals as goal

pub look_node-requires : goal.look_node-requires
look_node-requires c = search room

pub atom_bytes-requires : goal.atom_bytes-requires
atom_bytes-requires c = search kept.named_room

pub same_name-requires : goal.same_name-requires
same_name-requires c = search room

pub returns-in-Pair : goal.returns-in-Pair
returns-in-Pair c = search (laws.atom_at_pair, laws.some_pair)

pub returns-then-same_name : goal.returns-then-same_name
returns-then-same_name c = search laws.atom_yes

pub returns-else-same_name : goal.returns-else-same_name
returns-else-same_name c = search laws.atom_no
