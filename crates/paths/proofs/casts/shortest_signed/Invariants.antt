-- `paths::casts::shortest_signed` meets its contract. The invariant: the bytes s have the same shortest bytes. Assumes nothing.
use mathlib.Core.Path.{◌≡◌}
use lib.ListN.{length}
use Rattle.meaning.specs.Number.{shortest_signed}
use Rattle.paths.proofs.casts.shortest_signed.Given as goal

abbrev pub invariant-loop-s : goal.invariant-loop-s
invariant-loop-s l = shortest_signed l.s ≡ shortest_signed l.b

abbrev pub decreases-loop-s : goal.decreases-loop-s
decreases-loop-s l = length l.s
