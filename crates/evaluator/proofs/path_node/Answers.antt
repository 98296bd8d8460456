-- path_node: an answer for each need; what carries weight stands in the laws.
use Rattle.evaluator.proofs.Walk as walk
use Rattle.store.proofs.Ready.{room}
use Rattle.evaluator.proofs.path_node.Goals as goal
use Rattle.evaluator.proofs.path_node.Goals.{then-turn, else-turn}

pub atom_bytes-b-requires : goal.atom_bytes-b-requires
atom_bytes-b-requires c = search room

pub returns-then-is_zero : goal.returns-then-is_zero
returns-then-is_zero c = search walk.path_zero

pub turn_count-count-requires : goal.turn_count-count-requires
turn_count-count-requires c = search walk.path_short

pub loop-i-init : goal.loop-i-init
loop-i-init c = search walk.walk_starts

pub look_node-requires : goal.look_node-requires
look_node-requires c = search walk.walk_room

pub returns-in-Atom : goal.returns-in-Atom
returns-in-Atom c = search walk.walk_fails

pub loop-i-preserved : goal.loop-i-preserved
loop-i-preserved c = elim c.if-turn.branch [ then-turn w ↦ rw w.q-is (search (walk.walk_right, w.if-turn.true)) | else-turn w ↦ rw w.q-is (search (walk.walk_left, w.if-turn.false)) ]

pub returns : goal.returns
returns c = search walk.walk_ends
