-- lay_apply_nil: an answer for each need; what carries weight stands in the laws.
use Rattle.patterns.proofs.Laws as laws
use Rattle.store.proofs.Ready.{nil_ready}
use borrow.Author.Rules.{rules}
use Rattle.patterns.proofs.lay_apply_nil.Goals as goal

pub lay_pair-t-requires : goal.lay_pair-t-requires
lay_pair-t-requires c = (search nil_ready, search rules, search rules)

pub returns : goal.returns
returns c = laws.apply_nil_laid c.lay_headed.ensures c.lay_pair-t.ensures c.lay_name-r.ensures
