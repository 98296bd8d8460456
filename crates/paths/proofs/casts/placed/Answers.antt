-- `paths::casts::placed` meets its contract. Assumes nothing.
use Rattle.paths.proofs.CastLaws as laws
use Rattle.paths.proofs.casts.placed.Goals as goal

pub returns : goal.returns
returns c = search laws.placed_at
