-- enlist_node: an answer for each need; what carries weight stands in the laws.
use Rattle.std.proofs.Common.{rules}
use Rattle.std.proofs.lemmas.Result.{err_from_is_err_and}
use Rattle.sexp.proofs.Lists as lists
use Rattle.sexp.proofs.enlist_node.Goals as goal

pub loop-item-init : goal.loop-item-init
loop-item-init c = search (rules, lists.enlist_starts)

pub pair_node-requires : goal.pair_node-requires
pair_node-requires c = let e = c.in-Some.ensures.steps in (rw c.from.ensures (search lists.enlist_item), c.loop-item.invariant.ready)

pub loop-item-preserved : goal.loop-item-preserved
loop-item-preserved c = let e = c.in-Some.ensures.steps in let b = rw c.from.ensures at c.pair_node.ensures in search (lists.enlist_turn, c.in_ok-made.was)

pub returns-in_err-made : goal.returns-in_err-made
returns-in_err-made c =
    let e = c.in-Some.ensures.steps in let b = rw c.from.ensures at c.pair_node.ensures in
    let p = err_from_is_err_and c.from_residual.result c.from_residual.ensures.1 in rw (p.1, p.2) (search (lists.enlist_over, c.in_err-made.was))

pub returns : goal.returns
returns c = let e = c.in-None.ensures.steps.0 in search lists.enlist_ends
