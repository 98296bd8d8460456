-- perform: an answer for each need; what carries weight stands in the laws.
use Rattle.evaluator.proofs.Operators as operators
use Rattle.evaluator.proofs.perform.Goals as goal

pub returns-in-Apply : goal.returns-in-Apply
returns-in-Apply c = search operators.performs_apply

pub returns-in-Choose : goal.returns-in-Choose
returns-in-Choose c = search operators.performs_choose

pub returns-in-Cons : goal.returns-in-Cons
returns-in-Cons c = search operators.performs_cons

pub returns-in-First : goal.returns-in-First
returns-in-First c = search operators.performs_first

pub returns-in-Rest : goal.returns-in-Rest
returns-in-Rest c = search operators.performs_rest

pub returns-in-Listp : goal.returns-in-Listp
returns-in-Listp c = search operators.performs_listp

pub returns-in-Raise : goal.returns-in-Raise
returns-in-Raise c = search operators.performs_raise

pub returns-in-Same : goal.returns-in-Same
returns-in-Same c = search operators.performs_same
