-- put_before: one line a need; the lemmas are in Putting.
use Rattle.driver_parts.proofs.Putting as putting
use Rattle.driver_parts.proofs.put_before.Goals as goal

pub build-requires : goal.build-requires
build-requires c = (search putting.put_ready, search putting.put_items)

pub returns-in-Changed : goal.returns-in-Changed
returns-in-Changed c = search putting.put_changed

pub returns-in-Same : goal.returns-in-Same
returns-in-Same c = search putting.put_same

pub returns-in-Stopped : goal.returns-in-Stopped
returns-in-Stopped c = search putting.put_stopped
