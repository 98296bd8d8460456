-- worked_into: one line a need; the lemmas are in Putting.
use Rattle.driver_parts.proofs.Putting as putting
use Rattle.driver_parts.proofs.worked_into.Goals as goal

pub overflow_cast-result : goal.overflow_cast-result
overflow_cast-result c = search putting.move_small

pub flag_after-requires : goal.flag_after-requires
flag_after-requires c = search putting.move_room

pub overflow_cast-result-in-Same : goal.overflow_cast-result-in-Same
overflow_cast-result-in-Same c = search putting.stay_small

pub flag_after-requires-in-Same : goal.flag_after-requires-in-Same
flag_after-requires-in-Same c = search putting.stay_room

pub returns-in-Changed : goal.returns-in-Changed
returns-in-Changed c = search putting.became_changed

pub returns-in-Same : goal.returns-in-Same
returns-in-Same c = search putting.became_same

pub returns-in-Stopped : goal.returns-in-Stopped
returns-in-Stopped c = search putting.became_refused
