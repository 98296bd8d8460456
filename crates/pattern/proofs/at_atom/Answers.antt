-- at_atom: one law for each way.
use Rattle.store.proofs.Ready.{room}
use Rattle.pattern.proofs.Kept as kept
use Rattle.pattern.proofs.Laws as laws
use Rattle.pattern.proofs.at_atom.Goals as goal

pub look_node-requires : goal.look_node-requires
look_node-requires c = search room

pub is_byte_node-requires : goal.is_byte_node-requires
is_byte_node-requires c = search room

pub is_byte_node-requires-then-is_byte_node : goal.is_byte_node-requires-then-is_byte_node
is_byte_node-requires-then-is_byte_node c = search room

pub is_byte_node-requires-then-is_byte_node-2 : goal.is_byte_node-requires-then-is_byte_node-2
is_byte_node-requires-then-is_byte_node-2 c = search kept.named_room

pub is_byte_node-requires-else-is_byte_node : goal.is_byte_node-requires-else-is_byte_node
is_byte_node-requires-else-is_byte_node c = search room

pub both_bytes-requires : goal.both_bytes-requires
both_bytes-requires c = (search room, search kept.named_room)

pub returns-in-Pair : goal.returns-in-Pair
returns-in-Pair c = search (laws.at_pair, laws.some_pair)

pub returns-then-is_byte_node-3 : goal.returns-then-is_byte_node-3
returns-then-is_byte_node-3 c = search laws.dollar_both

pub returns-else-is_byte_node-3 : goal.returns-else-is_byte_node-3
returns-else-is_byte_node-3 c = search laws.dollar_one

pub returns-else-is_byte_node-2 : goal.returns-else-is_byte_node-2
returns-else-is_byte_node-2 c = search laws.dollar_name

pub returns-then-both_bytes : goal.returns-then-both_bytes
returns-then-both_bytes c = search laws.colon_both

pub returns-else-both_bytes : goal.returns-else-both_bytes
returns-else-both_bytes c = search laws.colon_name

pub returns-else-is_byte_node-4 : goal.returns-else-is_byte_node-4
returns-else-is_byte_node-4 c = search laws.other_head
