-- `paths::turns::sub_turn_count` meets its contract. Assumes nothing.
use Rattle.paths.proofs.SignedLaws as laws
use Rattle.paths.proofs.turns.sub_turn_count.Goals as goal

pub returns-then-negative : goal.returns-then-negative
returns-then-negative c = search laws.count_negative

pub returns-else-negative : goal.returns-else-negative
returns-else-negative c = search laws.count_positive
