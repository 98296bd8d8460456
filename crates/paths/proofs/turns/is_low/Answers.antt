-- `paths::turns::is_low` meets its contract. Assumes nothing.
use Rattle.paths.proofs.SignedLaws as laws
use Rattle.paths.proofs.turns.is_low.Goals as goal

pub returns-then-negative : goal.returns-then-negative
returns-then-negative c = search laws.low_negative

pub returns-else-negative : goal.returns-else-negative
returns-else-negative c = search laws.low_positive
