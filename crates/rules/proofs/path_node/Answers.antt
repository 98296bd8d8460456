-- path_node: an answer for each need; what carries weight stands in the laws.
use Rattle.rules.proofs.Path as path
use borrow.Author.Rules.{rules}
use Rattle.rules.proofs.path_node.Goals as goal

pub atom_bytes-requires : goal.atom_bytes-requires
atom_bytes-requires c = search path.path_room

pub returns-then-len-gt64 : goal.returns-then-len-gt64
returns-then-len-gt64 c = search path.path_long

pub slice_bounds-atom_node-end : goal.slice_bounds-atom_node-end
slice_bounds-atom_node-end c = search path.path_wide

pub atom_node-m-requires : goal.atom_node-m-requires
atom_node-m-requires c = (search path.path_held, search path.path_few)

pub returns : goal.returns
returns c = path.path_made _ _ _ _ _ _ _ _ _ c.lengthen-l.ensures c.atom_bytes.ensures c.requires.0 _ _ _ c.atom_node-m.ensures (search rules) c.marked.ensures c.put.ensures
