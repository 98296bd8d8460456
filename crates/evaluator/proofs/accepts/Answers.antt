-- accepts: an answer for each need; what carries weight stands in the laws.
use Rattle.evaluator.proofs.Heads as heads
use Rattle.evaluator.proofs.accepts.Goals as goal

pub loop-r-init : goal.loop-r-init
loop-r-init c = search heads.count_starts

pub look_node-requires : goal.look_node-requires
look_node-requires c = search heads.count_room

pub loop-r-smaller : goal.loop-r-smaller
loop-r-smaller c = search heads.count_falls

pub loop-r-preserved : goal.loop-r-preserved
loop-r-preserved c = search heads.count_again

pub is_nil_node-requires : goal.is_nil_node-requires
is_nil_node-requires c = search heads.count_room

pub returns-then-is_nil_node : goal.returns-then-is_nil_node
returns-then-is_nil_node c = search heads.count_ends

pub returns-in-Atom : goal.returns-in-Atom
returns-in-Atom c = search heads.count_improper
