-- low_node: an answer for each need; what carries weight stands in the laws.
use Rattle.substitute.proofs.Turns as turns
use Rattle.substitute.proofs.low_node.Goals as goal

pub returns : goal.returns
returns c = search turns.low_read
