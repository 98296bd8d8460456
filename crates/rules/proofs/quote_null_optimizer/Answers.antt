-- quote_null_optimizer: an answer for each need; what carries weight stands in the laws.
use Rattle.rules.proofs.Simple as simple
use Rattle.rules.proofs.quote_null_optimizer.Goals as goal

pub returns-in-Matched : goal.returns-in-Matched
returns-in-Matched c = search simple.quote_nil

pub returns-in-NoMatch : goal.returns-in-NoMatch
returns-in-NoMatch c = search simple.quote_none

pub returns-in-TooManyNames : goal.returns-in-TooManyNames
returns-in-TooManyNames c = search simple.quote_many
