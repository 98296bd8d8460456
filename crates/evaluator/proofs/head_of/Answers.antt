-- head_of: an answer for each need; what carries weight stands in the laws.
use Rattle.evaluator.proofs.Heads as heads
use Rattle.meaning.specs.Operator.{head_number}
use borrow.Author.Rules.{rules}
use Rattle.evaluator.proofs.head_of.Goals as goal

pub returns-then-b-ne1 : goal.returns-then-b-ne1
unfolding head_number
returns-then-b-ne1 c = search heads.head_long

pub bounds-b-0 : goal.bounds-b-0
unfolding head_number
bounds-b-0 c = search rules

pub returns-in-1 : goal.returns-in-1
unfolding head_number
returns-in-1 c = heads.head_is _ 1 c.in-1.is (search rules)

pub returns-in-2 : goal.returns-in-2
unfolding head_number
returns-in-2 c = heads.head_is _ 2 c.in-2.is (search rules)

pub returns-in-3 : goal.returns-in-3
unfolding head_number
returns-in-3 c = heads.head_is _ 3 c.in-3.is (search rules)

pub returns-in-4 : goal.returns-in-4
unfolding head_number
returns-in-4 c = heads.head_is _ 4 c.in-4.is (search rules)

pub returns-in-5 : goal.returns-in-5
unfolding head_number
returns-in-5 c = heads.head_is _ 5 c.in-5.is (search rules)

pub returns-in-6 : goal.returns-in-6
unfolding head_number
returns-in-6 c = heads.head_is _ 6 c.in-6.is (search rules)

pub returns-in-7 : goal.returns-in-7
unfolding head_number
returns-in-7 c = heads.head_is _ 7 c.in-7.is (search rules)

pub returns-in-8 : goal.returns-in-8
unfolding head_number
returns-in-8 c = heads.head_is _ 8 c.in-8.is (search rules)

pub returns-in-9 : goal.returns-in-9
unfolding head_number
returns-in-9 c = heads.head_is _ 9 c.in-9.is (search rules)

pub returns-in_default : goal.returns-in_default
unfolding head_number
returns-in_default c = let r = c.in_default.in_default-own.rest in heads.head_other _ (search rules) r.0.0.0.0.0.0.0.0.1 r.0.0.0.0.0.0.0.1 r.0.0.0.0.0.0.1 r.0.0.0.0.0.1 r.0.0.0.0.1 r.0.0.0.1 r.0.0.1 r.0.1 r.1
