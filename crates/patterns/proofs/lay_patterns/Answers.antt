-- lay_patterns: an answer for each need; what carries weight stands in the laws.
use Rattle.patterns.proofs.Laws as laws
use Rattle.patterns.proofs.lay_patterns.Goals as goal

pub returns : goal.returns
returns c = laws.patterns_laid c.lay_others-o.ensures c.lay_atom_both-b.ensures c.lay_cons_both-a.ensures
