-- The pattern's node number falls. One law of Laws for each call and each return.
use borrow.Author.Rules.{rules}
use Rattle.store.proofs.Ready.{room, ready_left, ready_right}
use Rattle.pattern.proofs.Laws as laws
use Rattle.pattern.proofs.+match_node.Goals as goal

pub look_node-requires : goal.look_node-requires
look_node-requires t c = search room

pub look_node-requires-in-Pair : goal.look_node-requires-in-Pair
look_node-requires-in-Pair t c = search room

pub at_atom-requires : goal.at_atom-requires
at_atom-requires t c = (search ready_left, search ready_right, laws.name_here _ _ _ _ _ c.look_node-in-Pair.ensures (search rules) c.requires.1, search rules)

pub takes_any-requires : goal.takes_any-requires
takes_any-requires t c = (search laws.room_left, search laws.room_right)

pub unify_bindings-requires : goal.unify_bindings-requires
unify_bindings-requires t c = (search rules, laws.any_name _ _ _ _ _ _ _ c.in-Pair.is c.look_node.ensures _ c.takes_any.ensures (search rules) c.requires.0, search rules)

pub match_node-requires : goal.match_node-requires
match_node-requires t c = (search laws.below_left, (ready_left _ _ _ _ _ _ _ c.in-Pair.is c.look_node.ensures c.requires.0, ready_left _ _ _ _ _ _ _ c.in-Pair-look_node.is c.look_node-in-Pair.ensures c.requires.1, search rules))

pub match_node-requires-in-Matched : goal.match_node-requires-in-Matched
match_node-requires-in-Matched t c = (laws.below_right _ _ _ _ _ _ _ c.in-Pair.is c.look_node.ensures c.requires.0 _ (search rules), (laws.after_match c.match_node.ensures (ready_right _ _ _ _ _ _ _ c.in-Pair.is c.look_node.ensures c.requires.0), laws.after_match c.match_node.ensures (ready_right _ _ _ _ _ _ _ c.in-Pair-look_node.is c.look_node-in-Pair.ensures c.requires.1), laws.bound_of c.match_node.ensures c.in-Matched.is))

pub returns-in-Atom-look_node : goal.returns-in-Atom-look_node
returns-in-Atom-look_node t c = laws.whole_atom c.at_atom.ensures c.look_node.ensures c.in-Pair.is c.requires.0 c.requires.1 c.requires.2

pub returns-then-takes_any : goal.returns-then-takes_any
returns-then-takes_any t c = laws.whole_any c.unify_bindings.ensures c.takes_any.ensures (search rules) c.look_node.ensures c.in-Pair.is c.look_node-in-Pair.ensures c.in-Pair-look_node.is c.requires.0 c.requires.1 c.requires.2

pub returns-in-Matched : goal.returns-in-Matched
returns-in-Matched t c = laws.whole_both c.match_node-in-Matched.ensures c.match_node.ensures c.in-Matched.is c.takes_any.ensures (search rules) c.look_node.ensures c.in-Pair.is c.look_node-in-Pair.ensures c.in-Pair-look_node.is c.requires.0 c.requires.1 c.requires.2

pub returns-in_default : goal.returns-in_default
returns-in_default t c = laws.whole_failed c.match_node.ensures c.in_default.not-Matched c.takes_any.ensures (search rules) c.look_node.ensures c.in-Pair.is c.look_node-in-Pair.ensures c.in-Pair-look_node.is c.requires.0 c.requires.1 c.requires.2
