-- read_and_apply: an answer for each need; what carries weight stands in the laws.
use borrow.Author.Rules.{rules}
use Rattle.rule_line.proofs.Applying as applying
use Rattle.optimiser.proofs.Working as working
use Rattle.rule_line.proofs.read_and_apply.Goals as goal

pub apply_node-requires : goal.apply_node-requires
apply_node-requires c = (search working.read_ready, search working.read_patterned, search rules, search rules)

pub returns-in-Err : goal.returns-in-Err
returns-in-Err c = search applying.read_refused

pub returns-in-Ok : goal.returns-in-Ok
returns-in-Ok c = search applying.read_applied
