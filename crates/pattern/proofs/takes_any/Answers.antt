-- takes_any: the head, then the cell of what follows it.
use mathlib.Core.Path.{◌∙◌}
use Rattle.pattern.proofs.Laws as laws
use Rattle.pattern.proofs.takes_any.Goals as goal
use Rattle.pattern.proofs.takes_any.Goals.{then-is_byte_node+in-Atom, then-is_byte_node+in_default, else-is_byte_node}

pub returns-then-matches : goal.returns-then-matches
returns-then-matches c = elim c.if-is_byte_node.branch [
  | then-is_byte_node+in-Atom w ↦ search laws.any_atom
  | then-is_byte_node+in_default w ↦ cc
  | else-is_byte_node w ↦ cc
]

pub returns-else-matches : goal.returns-else-matches
returns-else-matches c = elim c.if-is_byte_node.branch [
  | then-is_byte_node+in-Atom w ↦ cc
  | then-is_byte_node+in_default w ↦ w.value-is ∙ search (laws.any_pair, laws.some_pair)
  | else-is_byte_node w ↦ w.value-is ∙ search laws.any_no
]
