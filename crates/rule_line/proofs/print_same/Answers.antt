-- print_same: an answer for each need; what carries weight stands in the laws.
use Rattle.rule_line.proofs.Telling as telling
use Rattle.rule_line.proofs.print_same.Goals as goal

pub returns : goal.returns
returns c = search telling.same_printed
