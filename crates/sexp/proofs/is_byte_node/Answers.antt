-- is_byte_node: an answer for each need; what carries weight stands in the laws.
use Rattle.sexp.proofs.Tests as tests
use Rattle.sexp.proofs.is_byte_node.Goals as goal

pub returns-in-Pair : goal.returns-in-Pair
returns-in-Pair c = search tests.byte_pair

pub returns-in-Atom : goal.returns-in-Atom
returns-in-Atom c = search tests.byte_atom
