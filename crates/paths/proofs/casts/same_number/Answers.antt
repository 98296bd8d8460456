-- `paths::casts::same_number` meets its contract. Assumes nothing.
use Rattle.paths.proofs.CastLaws as laws
use Rattle.paths.proofs.casts.same_number.Goals as goal

pub returns : goal.returns
returns c = search laws.same_bytes
