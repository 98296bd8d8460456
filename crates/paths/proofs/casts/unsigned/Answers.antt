-- `paths::casts::unsigned` meets its contract. Assumes nothing.
use Rattle.paths.proofs.CastLaws as laws
use Rattle.paths.proofs.casts.unsigned.Goals as goal

pub measured-requires : goal.measured-requires
measured-requires c = search laws.placed_zeros
