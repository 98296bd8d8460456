-- read_tree: byte by byte, with the pairs that wait. Assumes nothing.
use Prim.Native.Nat.{◌-◌}
use mathlib.Core.Path.{◌≡◌}
use lib.ListN.{length}
use Rattle.form.proofs.Reader as laws
use Rattle.form.proofs.read_tree.Given as goal

abbrev pub invariant-loop-next : goal.invariant-loop-next
invariant-loop-next l = laws.Going l.form l.initial.room l.room l.wait l.stop l.at l.initial.spent l.spent l.k l.next × (length l.wait ≡ length l.initial.wait)

abbrev pub decreases-loop-next : goal.decreases-loop-next
decreases-loop-next l = l.stop - l.next
