-- `paths::turns::turn_count` meets its contract. Assumes nothing.
use Rattle.paths.proofs.TurnLaws as laws
use Rattle.paths.proofs.turns.turn_count.Goals as goal

pub returns-then-z-b : goal.returns-then-z-b
returns-then-z-b c = search laws.count_zero

pub overflow_add-result : goal.overflow_add-result
overflow_add-result c = search laws.count_fits

pub returns : goal.returns
returns c = search laws.count_some
