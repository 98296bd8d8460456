-- yes_no: an answer for each need; what carries weight stands in the laws.
use Rattle.evaluator.proofs.Operators as operators
use Rattle.std.proofs.Common.{rules}
use Rattle.evaluator.proofs.yes_no.Goals as goal

pub returns-then-yes : goal.returns-then-yes
returns-then-yes c = search (operators.yes_made, c.in_ok-one.was)

pub returns-in_err-one : goal.returns-in_err-one
returns-in_err-one c = search (rules, operators.yes_refused, c.in_err-one.was)

pub returns : goal.returns
returns c = search operators.no_nil
