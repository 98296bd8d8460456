-- proper_list_node: an answer for each need; what carries weight stands in the laws.
use Rattle.sexp.proofs.Tests as tests
use Rattle.sexp.proofs.proper_list_node.Goals as goal

pub loop-r-smaller : goal.loop-r-smaller
loop-r-smaller c = search tests.onward_falls

pub loop-r-preserved : goal.loop-r-preserved
loop-r-preserved c = search tests.onward_turn

pub returns-in-Atom : goal.returns-in-Atom
returns-in-Atom c = search tests.onward_ends
