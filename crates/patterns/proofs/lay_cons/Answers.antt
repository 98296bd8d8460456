-- lay_cons: an answer for each need; what carries weight stands in the laws.
use Rattle.patterns.proofs.Laws as laws
use borrow.Author.Rules.{rules}
use Rattle.patterns.proofs.lay_cons.Goals as goal

pub lay_call_2-requires : goal.lay_call_2-requires
lay_call_2-requires c = (laws.laid_old c.lay_name-b.ensures c.lay_name-a.ensures.stands.ready, search rules, search rules)

pub returns : goal.returns
returns c = laws.cons_laid c.lay_call_2.ensures c.lay_name-b.ensures c.lay_name-a.ensures
