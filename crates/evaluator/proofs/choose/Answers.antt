-- choose: an answer for each need; what carries weight stands in the laws.
use Rattle.evaluator.proofs.Operators as operators
use Rattle.store.proofs.Ready.{room}
use Rattle.evaluator.proofs.choose.Goals as goal

pub is_nil_node-requires : goal.is_nil_node-requires
is_nil_node-requires c = search room

pub returns-then-is_nil_node : goal.returns-then-is_nil_node
returns-then-is_nil_node c = search operators.chose_third

pub returns : goal.returns
returns c = search operators.chose_second
