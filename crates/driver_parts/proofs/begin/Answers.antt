-- begin: one line a need; the lemmas are in Parts.
use Rattle.store.proofs.Ready as ready
use Rattle.driver_parts.proofs.Parts as parts
use Rattle.driver_parts.proofs.begin.Goals as goal

pub look_node-requires : goal.look_node-requires
look_node-requires c = search ready.room

pub returns-then-w-ge65536 : goal.returns-then-w-ge65536
returns-then-w-ge65536 c = search parts.begin_out

pub returns-in-Atom : goal.returns-in-Atom
returns-in-Atom c = search parts.begin_atom

pub returns-else-w-ge65536 : goal.returns-else-w-ge65536
returns-else-w-ge65536 c = search parts.begin_pass
