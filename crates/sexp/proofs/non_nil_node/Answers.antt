-- non_nil_node: an answer for each need; what carries weight stands in the laws.
use Rattle.sexp.proofs.Tests as tests
use Rattle.sexp.proofs.non_nil_node.Goals as goal

pub returns-in-Pair : goal.returns-in-Pair
returns-in-Pair c = search tests.non_nil_pair

pub returns-in-Atom : goal.returns-in-Atom
returns-in-Atom c = rw c.is_empty.ensures (search tests.non_nil_atom)
