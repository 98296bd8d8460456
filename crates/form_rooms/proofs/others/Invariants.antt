-- others: no more are counted than were looked at. Assumes nothing.
use Rattle.std.proofs.Common.{◌≤◌}
use Rattle.form_rooms.proofs.others.Given as goal

abbrev pub invariant-loop-y : goal.invariant-loop-y
invariant-loop-y l = l.n ≤ l.y-index
