-- proper_list_node: an answer for each need; what carries weight stands in the laws.
use Rattle.sexp.proofs.Tests as tests
use Rattle.sexp.proofs.proper_list_node.Given as goal

abbrev pub invariant-loop-r : goal.invariant-loop-r
invariant-loop-r l = tests.Onward l.form l.room l.n l.m

abbrev pub decreases-loop-r : goal.decreases-loop-r
decreases-loop-r l = l.m
