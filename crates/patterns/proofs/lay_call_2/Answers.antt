-- lay_call_2: an answer for each need; what carries weight stands in the laws.
use Rattle.patterns.proofs.Laws as laws
use Rattle.store.proofs.Ready.{nil_ready}
use borrow.Author.Rules.{rules}
use Rattle.patterns.proofs.lay_call_2.Goals as goal

pub lay_pair-t-requires : goal.lay_pair-t-requires
lay_pair-t-requires c = (search rules, search nil_ready, search rules)

pub lay_pair-u-requires : goal.lay_pair-u-requires
lay_pair-u-requires c = (search laws.laid_old, search rules, search rules)

pub returns : goal.returns
returns c = laws.called_2 _ c.lay_headed.ensures c.lay_pair-u.ensures c.lay_pair-t.ensures c.requires.0
