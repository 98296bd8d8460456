-- got_node: what get says of a match, or nothing.
use Rattle.pattern.proofs.Laws as laws
use Rattle.pattern.proofs.got_node.Goals as goal

pub get-requires : goal.get-requires
get-requires c = search laws.bound_of

pub returns-in-Matched : goal.returns-in-Matched
returns-in-Matched c = search laws.got_matched

pub returns-in-NoMatch : goal.returns-in-NoMatch
returns-in-NoMatch c = search laws.got_failed
