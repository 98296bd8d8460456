-- count_in: one line a need; the laws are in Counting.
use Rattle.std.proofs.Common.{arith}
use Rattle.run_state.proofs.Counting as counting
use Rattle.run_state.proofs.count_in.Goals as goal

pub returns : goal.returns
returns c = (search counting.counted_at, omega (arith, c.from.ensures, c.from-2.ensures))
