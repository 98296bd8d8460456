-- longer_node: an answer for each need; what carries weight stands in the laws.
use Rattle.rules.proofs.Path as path
use borrow.Author.Rules.{rules}
use Rattle.rules.proofs.longer_node.Goals as goal

pub look_node-requires : goal.look_node-requires
look_node-requires c = search path.longer_room

pub path_node-requires : goal.path_node-requires
path_node-requires c = (search path.longer_asks, search path.longer_named, search rules)

pub returns-in-None : goal.returns-in-None
returns-in-None c = search path.longer_none

pub returns-in-Pair : goal.returns-in-Pair
returns-in-Pair c = search path.longer_pair

pub returns-in-Atom : goal.returns-in-Atom
returns-in-Atom c = search path.longer_atom
