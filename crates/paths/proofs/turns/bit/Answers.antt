-- `paths::turns::bit` meets its contract. Assumes nothing.
use Rattle.paths.proofs.TurnLaws as laws
use Rattle.paths.proofs.turns.bit.Goals as goal

pub returns : goal.returns
returns c = search laws.masked
