-- `decimals::turn_over` meets its contract. The invariant: the bytes from at on are turned over as far as the loop has come. Assumes nothing.
use Rattle.decimals.proofs.RoomLaws as laws
use Rattle.decimals.proofs.turn_over.Given as goal

abbrev pub invariant-loop-b : goal.invariant-loop-b
invariant-loop-b l = laws.Turning l.initial.b-items l.b-items l.b-index
