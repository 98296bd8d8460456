-- work: both forms are read, and then the program is evaluated.
use Rattle.evaluation.proofs.Bytes as laws
use borrow.Author.Rules.{rules}
use Rattle.evaluation.proofs.work.Goals as goal

pub eval_node-requires : goal.eval_node-requires
eval_node-requires c = (search (laws.program_ready, c.in_ok-first.was), search (laws.environment_ready, c.in_ok-first.was))

pub returns-in_err-first : goal.returns-in_err-first
returns-in_err-first c = search (rules, laws.both_refused, c.in_err-first.was)

pub returns : goal.returns
returns c = search (laws.both_evaluated, c.in_ok-first.was)
