-- print_ruled: an answer for each need; what carries weight stands in the laws.
use borrow.Author.Rules.{rules}
use Rattle.rule_line.proofs.Telling as telling
use Rattle.rule_line.proofs.print_ruled.Goals as goal

pub returns-then-rule-eq0 : goal.returns-then-rule-eq0
returns-then-rule-eq0 c = search telling.answer_none

pub slice_bounds-print_rule-count : goal.slice_bounds-print_rule-count
slice_bounds-print_rule-count c = search telling.answer_long

pub slice_bounds-print_rule-start : goal.slice_bounds-print_rule-start
slice_bounds-print_rule-start c = search telling.answer_long

pub print_rule-requires : goal.print_rule-requires
print_rule-requires c = (search rules, search telling.answer_rule, search telling.answer_most)

pub returns : goal.returns
returns c = search telling.answer_told
