-- `decimals::negate` meets its contract. Assumes nothing.
use borrow.Author.Rules.{rules}
use Rattle.decimals.proofs.SignLaws as laws
use Rattle.decimals.proofs.negate.Goals as goal

pub returns-then-at-room : goal.returns-then-at-room
returns-then-at-room c = search laws.negate_none

pub less_one-requires : goal.less_one-requires
less_one-requires c = search (laws.negate_some, rules)

pub returns-then-top-room : goal.returns-then-top-room
returns-then-top-room c = search laws.negate_one

pub returns : goal.returns
returns c = search laws.negate_ends
