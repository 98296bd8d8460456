-- `paths::casts::bigint_from_bytes` meets its contract. The invariant: the first i bytes, groups turned, are placed. Assumes nothing.
use Rattle.paths.proofs.CastLaws as laws
use Rattle.paths.proofs.casts.bigint_from_bytes.Goals as goal

pub loop-i-init : goal.loop-i-init
loop-i-init c = search laws.fours_none

pub loop-i-preserved : goal.loop-i-preserved
loop-i-preserved c = search laws.fours_more

pub returns : goal.returns
returns c = search laws.fours_all
