-- path_from_args: an answer for each need; what carries weight stands in the laws.
use Rattle.std.proofs.Common.{rules}
use Rattle.substitute.proofs.Turns as turns
use Rattle.std.proofs.lemmas.Result.{err_from_is_err_and}
use Rattle.substitute.proofs.path_from_args.Goals as goal

pub loop-i-init : goal.loop-i-init
loop-i-init c = search turns.walk_starts

pub turn_at-right-requires : goal.turn_at-right-requires
turn_at-right-requires c = (search turns.walk_room, search turns.walk_turn)

pub cons_node-requires : goal.cons_node-requires
cons_node-requires c = (search turns.walk_ready, search turns.walk_shows)

pub returns-in_err-made : goal.returns-in_err-made
returns-in_err-made c = let p = err_from_is_err_and c.from_residual.result c.from_residual.ensures.1 in rw (p.1, p.2) (search (turns.walk_stops, c.in_err-made.was))

pub loop-i-preserved : goal.loop-i-preserved
loop-i-preserved c = search (turns.walk_again, c.in_ok-made.was)

pub returns : goal.returns
returns c = turns.walk_ends _ _ _ _ _ _ _ _ _ _ c.loop-i.invariant (search rules)
