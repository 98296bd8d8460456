-- rule_of: an answer for each need; what carries weight stands in the laws.
use native.Mathlib.Omega.{arith}
use Rattle.rule_line.proofs.Telling as telling
use Rattle.rule_line.proofs.rule_of.Goals as goal

pub returns-then-first-ne1 : goal.returns-then-first-ne1
returns-then-first-ne1 c = search telling.no_rule_first

pub returns-in-len1-up : goal.returns-in-len1-up
returns-in-len1-up c = search telling.rule_named

pub returns-in_default : goal.returns-in_default
returns-in_default c = telling.no_rule_empty c.args.both.now c.args.first (omega arith)

pub returns-in_default-2 : goal.returns-in_default-2
returns-in_default-2 c = search telling.no_rule_large
