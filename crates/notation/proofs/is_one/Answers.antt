-- is_one: an answer for each need; what carries weight stands in the laws.
use Rattle.notation.proofs.Ones as laws
use Rattle.notation.proofs.is_one.Goals as goal

pub returns-in-1 : goal.returns-in-1
returns-in-1 c = search laws.one_alone

pub returns-in_default : goal.returns-in_default
returns-in_default c = search laws.none_alone

pub returns-in_default-2 : goal.returns-in_default-2
returns-in_default-2 c = search laws.other_alone

pub returns-in_default-3 : goal.returns-in_default-3
returns-in_default-3 c = search laws.more_bytes
