-- call_node: an answer for each need; what carries weight stands in the laws.
use Rattle.std.proofs.Common.{rules}
use Rattle.std.proofs.lemmas.Result.{err_from_is_err_and}
use Rattle.substitute.proofs.Bought as bought
use Rattle.substitute.proofs.call_node.Goals as goal

pub pair_node-requires : goal.pair_node-requires
pair_node-requires c = (search (bought.call_args, c.in_ok-f.was), search (bought.call_nil, c.in_ok-f.was))

pub pair_node-requires-2 : goal.pair_node-requires-2
pair_node-requires-2 c = (bought.made_kept _ _ _ _ _ _ _ _ _ _ _ _ _ c.pair_node.ensures c.in_ok-t.was c.atom_node.ensures c.in_ok-f.was, bought.made_ready _ _ _ _ _ _ _ c.pair_node.ensures _ c.in_ok-t.was)

pub returns-in_err-f : goal.returns-in_err-f
returns-in_err-f c = search (rules, bought.call_stops, c.in_err-f.was)

pub returns-in_err-t : goal.returns-in_err-t
returns-in_err-t c = let p = err_from_is_err_and c.from_residual-in_err-t.result c.from_residual-in_err-t.ensures.1 in rw (p.1, p.2) (bought.call_stops_2 _ _ _ _ _ _ c.atom_node.ensures _ c.in_ok-f.was _ _ _ c.pair_node.ensures _ _ _ c.in_err-t.was)

pub returns : goal.returns
returns c = bought.call_made _ _ _ _ _ _ c.atom_node.ensures _ c.in_ok-f.was _ _ _ c.pair_node.ensures _ c.in_ok-t.was _ _ c.pair_node-2.ensures c.requires
