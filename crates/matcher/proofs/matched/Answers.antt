-- matched: what the match says, and the place where it fails.
use Rattle.matcher.proofs.Forms as laws
use Rattle.matcher.proofs.matched.Goals as goal

pub place_node-requires : goal.place_node-requires
place_node-requires c = (search laws.ready_after, search laws.ready_after, search laws.fails_after)

pub returns-in-Matched : goal.returns-in-Matched
returns-in-Matched c = search laws.shows_bound

pub returns-in-NoMatch : goal.returns-in-NoMatch
returns-in-NoMatch c = search laws.shows_failed

pub returns-in-TooManyNames : goal.returns-in-TooManyNames
returns-in-TooManyNames c = search laws.shows_many
