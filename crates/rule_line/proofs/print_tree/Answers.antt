-- print_tree: an answer for each need; what carries weight stands in the laws.
use Rattle.rule_line.proofs.Telling as telling
use Rattle.rule_line.proofs.print_tree.Goals as goal

pub returns : goal.returns
returns c = telling.tree_printed _ _ _ _ _ _ _ _ _ _ _ c.print_numbers.ensures c.print_hex-b.ensures c.print_word-a.ensures
