-- `decimals::times_plus` meets its contract. The invariant: from index i on the number is m times itself and d more, with what runs over in carry. Assumes nothing.
use Rattle.decimals.proofs.RoomLaws as laws
use Rattle.decimals.proofs.times_plus.Given as goal

abbrev pub invariant-loop-i : goal.invariant-loop-i
invariant-loop-i l = laws.Timing l.m l.d l.initial.room l.room l.at l.carry l.i
