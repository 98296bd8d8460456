-- part_node: an answer for each need; what carries weight stands in the laws.
use Rattle.substitute.proofs.Part as part
use Rattle.substitute.proofs.part_node.Goals as goal

pub returns-then-right : goal.returns-then-right
returns-then-right c = search part.part_rest

pub returns-else-right : goal.returns-else-right
returns-else-right c = search part.part_first
