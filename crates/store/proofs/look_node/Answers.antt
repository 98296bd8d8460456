-- look_node: an answer for each need; what carries weight stands in the laws.
use Rattle.store.proofs.Laws as laws
use Rattle.store.proofs.look_node.Goals as goal
use Rattle.store.proofs.look_node.Goals.{else-l-n-via-then-l-n+else-r-n, else-l-n-via-else-l-n}

pub returns-then-r-n : goal.returns-then-r-n
returns-then-r-n c = search laws.cell_pair

pub returns-else-l-n : goal.returns-else-l-n
returns-else-l-n c = elim c.else-l-n.branch [ else-l-n-via-then-l-n+else-r-n w ↦ search laws.cell_right | else-l-n-via-else-l-n w ↦ search laws.cell_left ]

pub returns-else-room-n-eq2 : goal.returns-else-room-n-eq2
returns-else-room-n-eq2 c = search laws.cell_atom
