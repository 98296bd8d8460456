-- `decimals::turn_over` meets its contract. The invariant: the bytes from at on are turned over as far as the loop has come. Assumes nothing.
use Rattle.decimals.proofs.RoomLaws as laws
use Rattle.decimals.proofs.turn_over.Goals as goal

pub loop-b-init : goal.loop-b-init
loop-b-init c = laws.turning_starts _

pub loop-b-preserved : goal.loop-b-preserved
loop-b-preserved c = search laws.turning_turn

pub returns : goal.returns
returns c = search laws.turning_ends
