-- mix: an answer for each need.
use Rattle.std.proofs.Common.{refl}
use Rattle.store.specs.Nodes.{mixed}
use Rattle.store.proofs.mix.Goals as goal

pub returns : goal.returns
unfolding mixed
returns c = refl
