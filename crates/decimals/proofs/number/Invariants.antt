-- `decimals::number` meets its contract. The invariant: the digits from i on, after the number in the room, say what all digits say. Assumes nothing.
use Prim.Native.Nat.{◌-◌}
use lib.ListN.{length}
use Rattle.decimals.proofs.WordLaws as laws
use Rattle.decimals.proofs.number.Given as goal

abbrev pub invariant-loop-i : goal.invariant-loop-i
invariant-loop-i l = laws.Numbering l.w l.initial.room l.room l.at l.i

abbrev pub decreases-loop-i : goal.decreases-loop-i
decreases-loop-i l = length l.w - l.i
