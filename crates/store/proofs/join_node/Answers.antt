-- join_node: an answer for each need; what carries weight stands in the laws.
use Rattle.store.proofs.Notes as notes
use Rattle.store.proofs.join_node.Goals as goal

pub put-requires : goal.put-requires
put-requires c = search notes.join_asks

pub returns : goal.returns
returns c = search notes.joined
