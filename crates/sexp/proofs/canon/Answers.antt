-- canon: an answer for each need; what carries weight stands in the laws.
use Rattle.sexp.proofs.Equal as equal
use Rattle.sexp.proofs.canon.Goals as goal

pub same_node-s-requires : goal.same_node-s-requires
same_node-s-requires c = search equal.same_room

pub loop-m-preserved : goal.loop-m-preserved
loop-m-preserved c = search equal.same_turn
