-- is_nil_node: an answer for each need; what carries weight stands in the laws.
use Rattle.sexp.proofs.Tests as tests
use Rattle.sexp.proofs.is_nil_node.Goals as goal

pub returns : goal.returns
returns c = search tests.nil_not
