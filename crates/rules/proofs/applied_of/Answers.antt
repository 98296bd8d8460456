-- applied_of: an answer for each need; what carries weight stands in the laws.
use Rattle.rules.proofs.Found as found
use Rattle.rules.proofs.Simple as simple
use Rattle.rules.proofs.applied_of.Goals as goal

pub get-s-requires : goal.get-s-requires
get-s-requires c = search found.match_bound

pub get-a-requires : goal.get-a-requires
get-a-requires c = search found.match_bound

pub returns-in-Matched : goal.returns-in-Matched
returns-in-Matched c = simple.applied_named _ _ _ _ _ _ _ c.matched_node.ensures c.requires.1.apply _ c.in-Matched.is _ _ c.get-s.ensures c.get-a.ensures _ c.both_got.ensures

pub returns-in-NoMatch : goal.returns-in-NoMatch
returns-in-NoMatch c = search simple.applied_none

pub returns-in-TooManyNames : goal.returns-in-TooManyNames
returns-in-TooManyNames c = search simple.applied_many
