-- quote_node: an answer for each need; what carries weight stands in the laws.
use Rattle.sexp.proofs.Lists as lists
use Rattle.std.proofs.Common.{rules}
use Rattle.sexp.proofs.quote_node.Goals as goal

pub pair_node-requires : goal.pair_node-requires
pair_node-requires c = (search (lists.quote_one, c.in_ok-one.was), search (lists.quote_old, c.in_ok-one.was))

pub returns : goal.returns
returns c = search (lists.quote_made, c.in_ok-one.was)

pub returns-in_err-one : goal.returns-in_err-one
returns-in_err-one c = search (rules, lists.quote_over, c.in_err-one.was)
