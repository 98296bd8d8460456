-- `paths::casts::negative` meets its contract. Assumes nothing.
use Rattle.paths.proofs.CastLaws as laws
use Rattle.paths.proofs.casts.negative.Goals as goal

pub returns-in-128-to-255 : goal.returns-in-128-to-255
returns-in-128-to-255 c = search laws.negative_top

pub returns-in_default : goal.returns-in_default
returns-in_default c = search laws.negative_none

pub returns-in_default-2 : goal.returns-in_default-2
returns-in_default-2 c = search laws.negative_low
