-- below: by what the left part's match says.
use Rattle.matcher.proofs.WayLaws as laws
use Rattle.matcher.proofs.way.below.Goals as goal

pub returns-in-Matched : goal.returns-in-Matched
returns-in-Matched c = search laws.right_below

pub returns-in-NoMatch : goal.returns-in-NoMatch
returns-in-NoMatch c = search laws.left_below

pub returns-in-TooManyNames : goal.returns-in-TooManyNames
returns-in-TooManyNames c = search laws.none_below
