-- lay_others: an answer for each need; what carries weight stands in the laws.
use Rattle.patterns.proofs.Laws as laws
use Rattle.store.proofs.Ready.{nil_ready}
use borrow.Author.Rules.{rules}
use Rattle.patterns.proofs.lay_others.Goals as goal

pub lay_headed-q-requires : goal.lay_headed-q-requires
lay_headed-q-requires c = (nil_ready _ _ _ c.lay_apply-a.ensures.stands.ready.held, search rules)

pub returns : goal.returns
returns c = laws.others_laid c.lay_apply_nil-n.ensures c.lay_headed-q.ensures c.lay_apply-a.ensures
