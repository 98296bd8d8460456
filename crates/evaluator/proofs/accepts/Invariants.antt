-- accepts: an answer for each need; what carries weight stands in the laws.
use Rattle.evaluator.proofs.Heads as heads
use Rattle.evaluator.proofs.accepts.Given as goal

abbrev pub invariant-loop-r : goal.invariant-loop-r
invariant-loop-r l = heads.Counting l.form l.room l.op l.list l.p l.k

abbrev pub decreases-loop-r : goal.decreases-loop-r
decreases-loop-r l = l.p
