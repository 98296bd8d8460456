-- `decimals::less_one` meets its contract. The invariant: the bytes from index i on were 0 and are ff. Assumes nothing.
use Rattle.decimals.proofs.RoomLaws as laws
use Rattle.decimals.proofs.less_one.Goals as goal

pub loop-i-init : goal.loop-i-init
loop-i-init c = search laws.lessening_starts

pub returns-then-room-i-ne0 : goal.returns-then-room-i-ne0
returns-then-room-i-ne0 c = search laws.lessening_last

pub loop-i-preserved : goal.loop-i-preserved
loop-i-preserved c = search laws.lessening_turn
