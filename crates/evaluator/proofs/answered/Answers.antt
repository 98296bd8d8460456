-- answered: an answer for each need; what carries weight stands in the laws.
use Rattle.evaluator.proofs.Operators as operators
use Rattle.std.proofs.Common.{rules}
use Rattle.evaluator.proofs.answered.Goals as goal

pub returns : goal.returns
returns c = search (operators.answered_value, rules)
