-- cons_q_a_optimizer: an answer for each need; what carries weight stands in the laws.
use Rattle.rules.proofs.Simple as simple
use Rattle.rules.proofs.cons_q_a_optimizer.Goals as goal

pub is_byte_node-requires : goal.is_byte_node-requires
is_byte_node-requires c = search simple.applied_room

pub returns-then-is_byte_node : goal.returns-then-is_byte_node
returns-then-is_byte_node c = search simple.args_yes

pub returns-else-is_byte_node : goal.returns-else-is_byte_node
returns-else-is_byte_node c = search simple.args_no

pub returns-in-None : goal.returns-in-None
returns-in-None c = search simple.not_call
