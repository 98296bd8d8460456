-- rest_path: an answer for each need; what carries weight stands in the laws.
use Rattle.rules.proofs.Path as path
use borrow.Author.Rules.{rules}
use Rattle.rules.proofs.rest_path.Goals as goal

pub longer_node-requires : goal.longer_node-requires
longer_node-requires c = (search path.rest_asks, search rules)

pub returns : goal.returns
returns c = search path.rest_goes
