-- verdict: an answer for each need; what carries weight stands in the laws.
use Rattle.lines.proofs.Reading as reading
use Rattle.lines.proofs.read.verdict.Goals as goal

pub returns-in-None : goal.returns-in-None
returns-in-None c = search reading.judge_form

pub returns-in_default : goal.returns-in_default
returns-in_default c = search reading.judge_bad

pub returns-in_default-2 : goal.returns-in_default-2
returns-in_default-2 c = search reading.judge_half
