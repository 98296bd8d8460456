-- lay_name: an answer for each need; what carries weight stands in the laws.
use Rattle.patterns.proofs.Laws as laws
use Rattle.patterns.proofs.lay_name.Goals as goal

pub returns : goal.returns
returns c = search laws.named
