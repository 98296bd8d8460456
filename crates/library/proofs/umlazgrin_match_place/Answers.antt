-- umlazgrin_match_place: an answer for each need; what carries weight stands in the laws.
use Rattle.library.proofs.Reports as laws
use Rattle.library.proofs.umlazgrin_match_place.Goals as goal

pub returns-in-Err : goal.returns-in-Err
returns-in-Err c = search laws.match_refused

pub returns-in-NoMatch : goal.returns-in-NoMatch
returns-in-NoMatch c = search laws.match_none

pub returns-in-TooManyNames : goal.returns-in-TooManyNames
returns-in-TooManyNames c = search laws.match_many

pub returns-in-Matched : goal.returns-in-Matched
returns-in-Matched c = search laws.match_done
