-- keep_body: one line a need; the lemmas are in Giving.
use Rattle.driver_parts.proofs.Giving as giving
use Rattle.driver_parts.proofs.keep_body.Goals as goal

pub keep-requires : goal.keep-requires
keep-requires c = (search giving.same_input, search giving.same_body)

pub keep-requires-in-Changed : goal.keep-requires-in-Changed
keep-requires-in-Changed c = (search giving.changed_input, search giving.changed_body)

pub returns-in-Stopped : goal.returns-in-Stopped
returns-in-Stopped c = search giving.gives_stopped

pub returns-in-Same : goal.returns-in-Same
returns-in-Same c = search giving.gives_same

pub returns-in-Changed : goal.returns-in-Changed
returns-in-Changed c = search giving.gives_changed
