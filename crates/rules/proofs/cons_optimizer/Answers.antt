-- cons_optimizer: an answer for each need; what carries weight stands in the laws.
use Rattle.rules.proofs.Simple as simple
use borrow.Author.Rules.{rules}
use Rattle.rules.proofs.cons_optimizer.Goals as goal

pub got_node-requires-in-None : goal.got_node-requires-in-None
got_node-requires-in-None c = (search simple.cons_pattern_2, search simple.after_got)

pub returns-in-Some : goal.returns-in-Some
returns-in-Some c = search simple.cons_one

pub returns-in-Some-got_node : goal.returns-in-Some-got_node
returns-in-Some-got_node c = simple.cons_two _ _ _ _ _ _ _ _ c.got_node.ensures c.requires.1.first_cons (search rules) c.requires.0 _ _ _ c.got_node-in-None.ensures c.requires.1.rest_cons _ c.in-Some-got_node.is c.with-in-Some-got_node.ensures

pub returns-in-None-got_node : goal.returns-in-None-got_node
returns-in-None-got_node c = simple.cons_none _ _ _ _ _ _ _ _ c.got_node.ensures c.requires.1.first_cons (search rules) c.requires.0 _ _ _ c.got_node-in-None.ensures c.requires.1.rest_cons (search rules) c.with-in-None-got_node.ensures
