-- with_counts: one line a need; the laws are in Adding.
use Rattle.std.proofs.Common.{arith}
use Rattle.totals.proofs.Adding as adding
use Rattle.totals.proofs.with_counts.Goals as goal

pub overflow_add-sums : goal.overflow_add-sums
overflow_add-sums c = search adding.count_fits

pub returns : goal.returns
returns c = adding.counts_are c.args.n _ c.loop-k.sums c.loop-k.k (omega arith) c.loop-k.invariant
