-- put_two: one line a need; the laws are in Putting. Assumes nothing.
use Rattle.std.proofs.Common.{◌+◌, ◌-◌, arith}
use Rattle.trace_bytes.proofs.Putting as laws
use Rattle.trace_bytes.proofs.put_two.Goals as goal

pub returns : goal.returns
returns c = rw (c.copy_from_slice.ensures.after, c.to_be_bytes.ensures) (laws.two_put c.args.out.now c.args.at (c.args.at + 2 - c.args.at) c.args.n (omega arith) (omega arith))
