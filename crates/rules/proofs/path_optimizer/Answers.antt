-- path_optimizer: an answer for each need; what carries weight stands in the laws.
use Rattle.rules.proofs.Found as found
use Rattle.rules.proofs.Path as path
use borrow.Author.Rules.{rules}
use Rattle.rules.proofs.path_optimizer.Goals as goal

pub get-g-requires : goal.get-g-requires
get-g-requires c = search found.match_bound

pub longer_node-requires : goal.longer_node-requires
longer_node-requires c = (search path.first_asks, search rules)

pub rest_path-requires : goal.rest_path-requires
rest_path-requires c = (search path.second_ready, search path.second_patterned)

pub rest_path-requires-in-TooManyNames : goal.rest_path-requires-in-TooManyNames
rest_path-requires-in-TooManyNames c = (search path.second_ready, search path.second_patterned)

pub returns-in-Matched : goal.returns-in-Matched
returns-in-Matched c = path.first_goes _ _ _ _ _ _ _ c.matched_node.ensures c.requires.0 c.requires.1 _ c.in-Matched.is _ c.get-g.ensures _ _ c.longer_node.ensures

pub returns-in-NoMatch : goal.returns-in-NoMatch
returns-in-NoMatch c = path.second_none _ _ _ _ _ _ _ c.matched_node.ensures c.requires.0 c.requires.1 _ _ c.rest_path.ensures (search rules)

pub returns-in-TooManyNames : goal.returns-in-TooManyNames
returns-in-TooManyNames c = path.second_many _ _ _ _ _ _ _ c.matched_node.ensures c.requires.0 c.requires.1 _ _ c.rest_path-in-TooManyNames.ensures (search rules)
