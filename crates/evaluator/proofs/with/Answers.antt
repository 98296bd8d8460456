-- with: an answer for each need; what carries weight stands in the laws.
use Rattle.evaluator.proofs.Heads as heads
use Rattle.evaluator.proofs.with.Goals as goal

pub returns-in-0 : goal.returns-in-0
returns-in-0 c = search heads.with_0

pub returns-in-1 : goal.returns-in-1
returns-in-1 c = search heads.with_1

pub returns-in-2 : goal.returns-in-2
returns-in-2 c = search heads.with_2

pub returns-in_default : goal.returns-in_default
returns-in_default c = search heads.with_3
