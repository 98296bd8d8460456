-- takes: an answer for each need; what carries weight stands in the laws.
use Rattle.evaluator.proofs.Heads as heads
use Rattle.evaluator.specs.declared.Operator.TheVariants.{Apply, Choose, Cons, First, Rest, Listp, Raise, Same}
use Rattle.meaning.specs.Operator.{takes}
use Rattle.evaluator.proofs.takes.Goals as goal

pub returns-in-Apply : goal.returns-in-Apply
unfolding takes
returns-in-Apply c = heads.takes_as _ Apply _ c.in-Apply.is

pub returns-in-Choose : goal.returns-in-Choose
unfolding takes
returns-in-Choose c = heads.takes_as _ Choose _ c.in-Choose.is

pub returns-in-Cons : goal.returns-in-Cons
unfolding takes
returns-in-Cons c = heads.takes_as _ Cons _ c.in-Cons.is

pub returns-in-First : goal.returns-in-First
unfolding takes
returns-in-First c = heads.takes_as _ First _ c.in-First.is

pub returns-in-Rest : goal.returns-in-Rest
unfolding takes
returns-in-Rest c = heads.takes_as _ Rest _ c.in-Rest.is

pub returns-in-Listp : goal.returns-in-Listp
unfolding takes
returns-in-Listp c = heads.takes_as _ Listp _ c.in-Listp.is

pub returns-in-Raise : goal.returns-in-Raise
unfolding takes
returns-in-Raise c = heads.takes_as _ Raise _ c.in-Raise.is

pub returns-in-Same : goal.returns-in-Same
unfolding takes
returns-in-Same c = heads.takes_as _ Same _ c.in-Same.is
