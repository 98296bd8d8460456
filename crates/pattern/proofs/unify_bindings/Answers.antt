-- unify_bindings: what get found, and then the comparison or the new binding.
use borrow.Author.Rules.{rules}
use Rattle.pattern.proofs.Kept as kept
use Rattle.pattern.proofs.Laws as laws
use Rattle.pattern.proofs.unify_bindings.Goals as goal

pub atom_bytes-requires : goal.atom_bytes-requires
atom_bytes-requires c = search kept.named_room

pub equal_node-requires : goal.equal_node-requires
equal_node-requires c = (search laws.found_of, search rules)

pub returns-then-equal_node : goal.returns-then-equal_node
returns-then-equal_node c = search laws.unify_same

pub returns-else-equal_node : goal.returns-else-equal_node
returns-else-equal_node c = search laws.unify_other

pub returns-in-None : goal.returns-in-None
returns-in-None c = search laws.unify_new
