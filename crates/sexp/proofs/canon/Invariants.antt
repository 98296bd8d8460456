-- canon: an answer for each need; what carries weight stands in the laws.
use Rattle.store.proofs.Ready as ready
use Rattle.sexp.proofs.canon.Given as goal

abbrev pub invariant-loop-m : goal.invariant-loop-m
invariant-loop-m l = ready.Same l.form l.room l.n l.m

abbrev pub decreases-loop-m : goal.decreases-loop-m
decreases-loop-m l = l.m
