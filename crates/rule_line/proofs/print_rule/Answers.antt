-- print_rule: an answer for each need; what carries weight stands in the laws.
use Rattle.rule_line.proofs.Telling as telling
use Rattle.rule_line.proofs.print_rule.Goals as goal

pub print_changed-requires : goal.print_changed-requires
print_changed-requires c = search telling.change_writable

pub returns-in-Same : goal.returns-in-Same
returns-in-Same c = search telling.told_same

pub returns-in-Changed : goal.returns-in-Changed
returns-in-Changed c = search telling.told_changed

pub returns-in-Stopped : goal.returns-in-Stopped
returns-in-Stopped c = search telling.told_refused
