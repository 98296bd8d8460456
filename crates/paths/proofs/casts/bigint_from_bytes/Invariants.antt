-- `paths::casts::bigint_from_bytes` meets its contract. The invariant: the first i bytes, groups turned, are placed. Assumes nothing.
use Rattle.paths.proofs.CastLaws as laws
use Rattle.paths.specs.Fours.{turned}
use Rattle.paths.proofs.casts.bigint_from_bytes.Given as goal

abbrev pub invariant-loop-i : goal.invariant-loop-i
invariant-loop-i l = laws.Placing (turned l.b) l.r l.base l.i
