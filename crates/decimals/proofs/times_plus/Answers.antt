-- `decimals::times_plus` meets its contract. The invariant: from index i on the number is m times itself and d more, with what runs over in carry. Assumes nothing.
use Rattle.decimals.proofs.RoomLaws as laws
use Rattle.decimals.proofs.times_plus.Goals as goal

pub loop-i-init : goal.loop-i-init
loop-i-init c = search laws.timing_starts

pub loop-i-preserved : goal.loop-i-preserved
loop-i-preserved c = let e = c.from.ensures in search laws.timing_turn
