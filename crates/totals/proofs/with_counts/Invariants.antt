-- with_counts: one line a need; the laws are in Adding.
use Rattle.run_state.specs.Notes.{count_in}
use Rattle.totals.proofs.Adding as adding
use Rattle.totals.proofs.with_counts.Given as goal

abbrev pub invariant-loop-k : goal.invariant-loop-k
invariant-loop-k l = adding.Counting l.fn.n (count_in l.row) l.sums l.k
