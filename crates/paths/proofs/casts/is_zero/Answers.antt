-- `paths::casts::is_zero` meets its contract. Assumes nothing.
use Rattle.paths.proofs.ShortestLaws as laws
use Rattle.paths.proofs.casts.is_zero.Goals as goal

pub returns : goal.returns
returns c = search laws.zero_test
