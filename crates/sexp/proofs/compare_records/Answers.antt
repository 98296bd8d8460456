-- compare_records: an answer for each need; what carries weight stands in the laws.
use Rattle.sexp.proofs.Equal as equal
use Rattle.sexp.proofs.compare_records.Goals as goal

pub returns-in-Pair-Pair : goal.returns-in-Pair-Pair
returns-in-Pair-Pair c = search equal.told_parts

pub returns-in-Atom-Atom : goal.returns-in-Atom-Atom
returns-in-Atom-Atom c = search equal.told_atoms

pub returns-in_default : goal.returns-in_default
returns-in_default c = search equal.told_pair_atom

pub returns-in_default-2 : goal.returns-in_default-2
returns-in_default-2 c = search equal.told_atom_pair
