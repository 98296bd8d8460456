-- noted_tail: an answer for each need; what carries weight stands in the laws.
use Rattle.store.specs.Store.{noted_tail_at}
use Rattle.std.proofs.Common.{rules}
use Rattle.store.proofs.noted_tail.Goals as goal

pub returns : goal.returns
unfolding noted_tail_at
returns c = search rules
