-- `decimals::before` meets its contract. The invariant: what is left of n would stand before index i. Assumes nothing.
use Rattle.decimals.proofs.RoomLaws as laws
use Rattle.decimals.proofs.before.Given as goal

abbrev pub invariant-loop-left : goal.invariant-loop-left
invariant-loop-left l = laws.Putting l.n l.initial.room l.room l.at l.left l.i

abbrev pub decreases-loop-left : goal.decreases-loop-left
decreases-loop-left l = l.left
