-- `paths::casts::shortest_signed` meets its contract. The invariant: the bytes s have the same shortest bytes. Assumes nothing.
use Rattle.paths.proofs.CastLaws as laws
use Rattle.paths.proofs.casts.shortest_signed.Goals as goal

pub loop-s-preserved : goal.loop-s-preserved
loop-s-preserved c = search laws.shrinks

pub returns-in_default : goal.returns-in_default
returns-in_default c = search laws.shrunk_short

pub returns-in_default-2 : goal.returns-in_default-2
returns-in_default-2 c = search (laws.shrunk_first, laws.shrunk_sign)

pub returns-in_default-3 : goal.returns-in_default-3
returns-in_default-3 c = search (laws.shrunk_first, laws.shrunk_sign)
