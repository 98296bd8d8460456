-- put8: an answer for each need; what carries weight stands in the laws.
use Rattle.std.proofs.Common.{◌+◌, ◌-◌, arith}
use Rattle.store.proofs.Writes as writes
use Rattle.store.proofs.put8.Goals as goal

pub returns : goal.returns
returns c = rw (c.copy_from_slice.ensures.after, c.to_le_bytes.ensures) (writes.put64_bytes c.args.room.now c.args.i (c.args.i + 8 - c.args.i) c.args.x (omega arith) (omega arith) (omega arith))
