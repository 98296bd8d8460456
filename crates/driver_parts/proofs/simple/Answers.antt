-- simple: one line a need; the lemmas are in Simply.
use Rattle.driver_parts.proofs.Simply as simply
use Rattle.driver_parts.proofs.simple.Goals as goal

pub returns-then-rule-eq1 : goal.returns-then-rule-eq1
returns-then-rule-eq1 c = search simply.is_1

pub returns-then-rule-eq2 : goal.returns-then-rule-eq2
returns-then-rule-eq2 c = search simply.is_2

pub returns-then-rule-eq3 : goal.returns-then-rule-eq3
returns-then-rule-eq3 c = search simply.is_3

pub returns-then-rule-eq6 : goal.returns-then-rule-eq6
returns-then-rule-eq6 c = search simply.is_6

pub returns-then-rule-eq7 : goal.returns-then-rule-eq7
returns-then-rule-eq7 c = search simply.is_7

pub returns : goal.returns
returns c = search simply.is_8
