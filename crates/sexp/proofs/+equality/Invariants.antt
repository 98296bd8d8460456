-- equal_node and equal_records: the first node's number falls. One law of Equal for each call and each return.
use Prim.Native.Nat.{◌+◌}
use Rattle.sexp.proofs.+equality.Given as goal

abbrev pub decreases-equal_node : goal.decreases-equal_node
decreases-equal_node l = l.x + l.x + 1

abbrev pub decreases-equal_records : goal.decreases-equal_records
decreases-equal_records l = l.a + l.a
