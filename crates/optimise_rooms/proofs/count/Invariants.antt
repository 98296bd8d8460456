-- count: no more are counted than were looked at. Assumes nothing.
use Rattle.std.proofs.Common.{◌≤◌}
use Rattle.optimise_rooms.proofs.count.Given as goal

abbrev pub invariant-loop-x : goal.invariant-loop-x
invariant-loop-x l = l.n ≤ l.x-index
