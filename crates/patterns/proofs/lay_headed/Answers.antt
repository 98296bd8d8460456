-- lay_headed: an answer for each need; what carries weight stands in the laws.
use Rattle.patterns.proofs.Laws as laws
use borrow.Author.Rules.{rules}
use Rattle.patterns.proofs.lay_headed.Goals as goal

pub lay_pair-requires : goal.lay_pair-requires
lay_pair-requires c = (search rules, search laws.laid_old, search rules)

pub returns : goal.returns
returns c = search laws.headed
