-- lay_call: an answer for each need; what carries weight stands in the laws.
use Rattle.patterns.proofs.Laws as laws
use Rattle.store.proofs.Ready.{nil_ready}
use borrow.Author.Rules.{rules}
use Rattle.patterns.proofs.lay_call.Goals as goal

pub lay_pair-t-requires : goal.lay_pair-t-requires
lay_pair-t-requires c = (search rules, search nil_ready, search rules)

pub returns : goal.returns
returns c = search laws.called
