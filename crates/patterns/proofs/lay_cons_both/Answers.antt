-- lay_cons_both: an answer for each need; what carries weight stands in the laws.
use Rattle.patterns.proofs.Laws as laws
use Rattle.patterns.proofs.lay_cons_both.Goals as goal

pub returns : goal.returns
returns c = search laws.cons_both
