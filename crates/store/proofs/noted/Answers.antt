-- noted: an answer for each need; what carries weight stands in the laws.
use Rattle.store.specs.Store.{noted_at}
use Rattle.std.proofs.Common.{rules}
use Rattle.store.proofs.noted.Goals as goal

pub returns : goal.returns
unfolding noted_at
returns c = search rules
