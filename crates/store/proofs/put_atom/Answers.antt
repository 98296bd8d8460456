-- put_atom: an answer for each need; what carries weight stands in the laws.
use Rattle.store.specs.Cells.{atom_put}
use Rattle.store.proofs.put_atom.Goals as goal

pub returns : goal.returns
unfolding atom_put
returns c = cc
