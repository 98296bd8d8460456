-- put_counts: one line a need; the laws are in Putting. Assumes nothing.
use Rattle.trace_bytes.proofs.Putting as laws
use Rattle.trace_bytes.proofs.put_counts.Goals as goal

pub returns : goal.returns
returns c = search laws.counts_put
