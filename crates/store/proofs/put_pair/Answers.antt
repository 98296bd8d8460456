-- put_pair: an answer for each need; what carries weight stands in the laws.
use Rattle.store.specs.Cells.{pair_put}
use Rattle.store.proofs.put_pair.Goals as goal

pub returns : goal.returns
unfolding pair_put
returns c = cc
