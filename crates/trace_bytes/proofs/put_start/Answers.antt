-- put_start: one line a need; the laws are in Putting. Assumes nothing.
use Rattle.trace_bytes.proofs.Putting as laws
use Rattle.trace_bytes.proofs.put_start.Goals as goal

pub returns : goal.returns
returns c = laws.start_put c.args.out.now c.put_two.new.out c.args.n (rw c.copy_from_slice.ensures.after at c.put_two.ensures)
