-- enlist_node: an answer for each need; what carries weight stands in the laws.
use Rattle.std.proofs.Common.{map, take}
use Rattle.store.specs.Nodes.{tree_at}
use Rattle.sexp.specs.Lists.{enlist_onto}
use Rattle.sexp.proofs.Lists as lists
use Rattle.sexp.proofs.enlist_node.Given as goal

abbrev pub invariant-loop-item : goal.invariant-loop-item
invariant-loop-item l = lists.Enlisting l.form l.initial.room l.room l.initial.made.ch l.made.ch l.k (enlist_onto (map (tree_at l.form l.initial.room) (take l.k l.items)) (tree_at l.form l.initial.room l.tail)) l.item-iterator.iter.rest.now l.made.node
