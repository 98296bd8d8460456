-- `decimals::less_one` meets its contract. The invariant: the bytes from index i on were 0 and are ff. Assumes nothing.
use Rattle.decimals.proofs.RoomLaws as laws
use Rattle.decimals.proofs.less_one.Given as goal

abbrev pub invariant-loop-i : goal.invariant-loop-i
invariant-loop-i l = laws.Lessening l.initial.room l.room l.at l.i
