-- print_changed: an answer for each need; what carries weight stands in the laws.
use Rattle.rule_line.proofs.Telling as telling
use Rattle.rule_line.proofs.print_changed.Goals as goal

pub slice_bounds-print_tree-end : goal.slice_bounds-print_tree-end
slice_bounds-print_tree-end c = search telling.tree_within

pub slice_bounds-print_tree-end-in-Some : goal.slice_bounds-print_tree-end-in-Some
slice_bounds-print_tree-end-in-Some c = search telling.tree_count

pub returns-in-None : goal.returns-in-None
returns-in-None c = search telling.tree_short

pub returns-in-Some : goal.returns-in-Some
returns-in-Some c = search telling.tree_told
