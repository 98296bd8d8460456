-- optimize_node: one line a need; the laws are in Starting.
use borrow.Author.Rules.{rules}
use Rattle.driver.proofs.Starting as starting
use Rattle.driver.proofs.optimize_node.Goals as goal

pub drive-requires : goal.drive-requires
drive-requires c = (search starting.start_fine, search rules, search starting.start_valid)

pub returns : goal.returns
returns c = (search starting.started, search starting.started_noted)
