-- `decimals::before` meets its contract. The invariant: what is left of n would stand before index i. Assumes nothing.
use Rattle.decimals.proofs.RoomLaws as laws
use Rattle.decimals.proofs.before.Goals as goal

pub loop-left-preserved : goal.loop-left-preserved
loop-left-preserved c = search laws.putting_turn
