-- matched_node: match_node with no bindings.
use borrow.Author.Rules.{rules}
use Rattle.pattern.proofs.Laws as laws
use Rattle.pattern.proofs.matched_node.Goals as goal

pub match_node-requires : goal.match_node-requires
match_node-requires c = (search rules, search rules, search laws.bound_none)

pub returns : goal.returns
returns c = search laws.from_none
