-- `paths::turns::below_top` meets its contract. Assumes nothing.
use Rattle.paths.proofs.TurnLaws as laws
use Rattle.paths.proofs.turns.below_top.Goals as goal

pub returns-then-x-eq0 : goal.returns-then-x-eq0
returns-then-x-eq0 c = search laws.top_none

pub returns-else-x-eq0 : goal.returns-else-x-eq0
returns-else-x-eq0 c = search laws.top_some
