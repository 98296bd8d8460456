-- lay_both: an answer for each need; what carries weight stands in the laws.
use Rattle.patterns.proofs.Laws as laws
use borrow.Author.Rules.{rules}
use Rattle.patterns.proofs.lay_both.Goals as goal

pub lay_call-r-requires : goal.lay_call-r-requires
lay_call-r-requires c = (search laws.laid_old, search rules)

pub returns : goal.returns
returns c = search laws.both_laid
