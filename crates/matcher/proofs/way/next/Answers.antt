-- next: by the cells of both parts, and by whether the pattern takes any pair.
use borrow.Author.Rules.{rules}
use Rattle.matcher.proofs.WayLaws as laws
use Rattle.matcher.proofs.way.next.Goals as goal

pub look_node-requires : goal.look_node-requires
look_node-requires c = search laws.pattern_room

pub look_node-requires-in-Pair : goal.look_node-requires-in-Pair
look_node-requires-in-Pair c = search laws.node_room

pub takes_any-requires : goal.takes_any-requires
takes_any-requires c = (search laws.head_room, search laws.rest_room)

pub below-requires-clause-ready : goal.below-requires-clause-ready
below-requires-clause-ready c = (search laws.part_a, search laws.part_b, search laws.part_l, search laws.part_r)

pub below-requires-clause-ks_value : goal.below-requires-clause-ks_value
below-requires-clause-ks_value c = laws.parts_are _ _ _ _ _ _ _ c.in-Pair.is c.look_node.ensures c.requires _ _ _ c.in-Pair-look_node.is c.look_node-in-Pair.ensures _ c.takes_any.ensures (search rules)

pub returns-in-Atom : goal.returns-in-Atom
returns-in-Atom c = search laws.atom_stops

pub returns-in-Atom-look_node : goal.returns-in-Atom-look_node
returns-in-Atom-look_node c = search laws.leaf_stops

pub returns-then-takes_any : goal.returns-then-takes_any
returns-then-takes_any c = search laws.any_stops
