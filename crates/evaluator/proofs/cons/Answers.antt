-- cons: an answer for each need; what carries weight stands in the laws.
use Rattle.evaluator.proofs.Operators as operators
use Rattle.std.proofs.Common.{rules}
use Rattle.evaluator.proofs.cons.Goals as goal

pub returns : goal.returns
returns c = search (operators.made_value, c.in_ok-pair.was)

pub returns-in_err-pair : goal.returns-in_err-pair
returns-in_err-pair c = search (rules, operators.made_refused, c.in_err-pair.was)
