-- forms_in: one line a need; the laws are in Summing.
use Rattle.totals.proofs.Summing as summing
use Rattle.totals.proofs.forms_in.Given as goal

abbrev pub invariant-loop-n : goal.invariant-loop-n
invariant-loop-n l = summing.Adding l.answered l.refused l.total l.n-index
