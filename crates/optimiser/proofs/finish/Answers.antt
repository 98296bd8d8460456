-- finish: an answer for each need; what carries weight stands in the laws.
use Rattle.optimiser.proofs.Working as laws
use Rattle.optimiser.proofs.finish.Goals as goal

pub returns-in-Same : goal.returns-in-Same
returns-in-Same c = search laws.finish_same

pub returns-in-Changed : goal.returns-in-Changed
returns-in-Changed c = search laws.finish_changed

pub returns-in-Stopped : goal.returns-in-Stopped
returns-in-Stopped c = search laws.finish_stopped
