-- `paths::turns::turn` meets its contract. Assumes nothing.
use Prim.Native.Nat.{◌/◌, ◌<◌}
use lib.ListN.{length}
use native.Mathlib.Omega.{arith}
use Rattle.paths.proofs.TurnLaws as laws
use Rattle.paths.proofs.turns.turn.Goals as goal

-- the byte of turn i is one of them: i is below the count of turns, each byte of the shortest ones has 8
pub overflow_sub-at : goal.overflow_sub-at
overflow_sub-at c = let h : c.args.i / 8 < length c.args.b.now = search laws.turn_within in omega arith

pub overflow_sub-at-2 : goal.overflow_sub-at-2
overflow_sub-at-2 c = let h : c.args.i / 8 < length c.args.b.now = search laws.turn_within in omega arith

pub bounds-b-at : goal.bounds-b-at
bounds-b-at c = let h : c.args.i / 8 < length c.args.b.now = search laws.turn_within in omega arith

pub returns : goal.returns
returns c = search laws.turn_here
