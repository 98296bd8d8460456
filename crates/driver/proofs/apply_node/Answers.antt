-- apply_node: one line a need; the laws are in Applying.
use borrow.Author.Rules.{rules}
use Rattle.driver.proofs.Applying as applying
use Rattle.driver.proofs.Starting as starting
use Rattle.driver.proofs.apply_node.Goals as goal

pub begin-s-requires : goal.begin-s-requires
begin-s-requires c = search applying.applied_ready

pub optimizer-requires : goal.optimizer-requires
optimizer-requires c = (search applying.applied_fine, search rules, search rules, search rules, search starting.start_known)

pub returns-in-Changed : goal.returns-in-Changed
returns-in-Changed c = search applying.applied_atom

pub returns-in-Stopped : goal.returns-in-Stopped
returns-in-Stopped c = search applying.applied_stopped

pub returns-in-Same : goal.returns-in-Same
returns-in-Same c = search applying.applied_pair
