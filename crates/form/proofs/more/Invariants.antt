use Rattle.form.proofs.Lengths as laws
use Rattle.form.proofs.more.Given as goal

abbrev pub invariant-loop-b : goal.invariant-loop-b
invariant-loop-b l = laws.Counted l.form l.stop l.at l.k l.v l.n l.b-index
