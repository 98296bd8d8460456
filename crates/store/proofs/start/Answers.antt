-- start: an answer for each need; what carries weight stands in the laws.
use Rattle.store.proofs.Atoms as atoms
use Rattle.store.proofs.start.Goals as goal

pub returns : goal.returns
returns c = search atoms.begun
