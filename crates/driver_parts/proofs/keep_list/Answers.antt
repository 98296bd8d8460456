-- keep_list: one line a need; the lemmas are in Giving.
use Rattle.driver_parts.proofs.Giving as giving
use Rattle.driver_parts.proofs.keep_list.Goals as goal

pub keep-requires : goal.keep-requires
keep-requires c = (search giving.made_input, search giving.made_list)

pub returns-in-Stopped : goal.returns-in-Stopped
returns-in-Stopped c = search giving.lists_stopped

pub returns-in-Same : goal.returns-in-Same
returns-in-Same c = search giving.lists_same

pub returns-in-Changed : goal.returns-in-Changed
returns-in-Changed c = search giving.lists_changed
