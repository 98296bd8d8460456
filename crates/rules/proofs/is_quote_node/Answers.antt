-- is_quote_node: an answer for each need; what carries weight stands in the laws.
use Rattle.store.proofs.Ready.{room_left}
use Rattle.rules.proofs.Constant as constant
use Rattle.rules.proofs.is_quote_node.Goals as goal

pub is_byte_node-requires : goal.is_byte_node-requires
is_byte_node-requires c = search room_left

pub returns-in-Atom : goal.returns-in-Atom
returns-in-Atom c = search constant.quote_atom

pub returns-in-Pair : goal.returns-in-Pair
returns-in-Pair c = search constant.quote_pair
