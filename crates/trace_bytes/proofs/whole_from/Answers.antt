-- whole_from: one line a need; the laws are in Entries. Assumes nothing.
use Rattle.trace_bytes.proofs.Entries as laws
use Rattle.trace_bytes.proofs.whole_from.Goals as goal

pub returns-then-trace-at-eq0 : goal.returns-then-trace-at-eq0
returns-then-trace-at-eq0 c = search laws.walk_last

pub returns-then-trace-at-lt3 : goal.returns-then-trace-at-lt3
returns-then-trace-at-lt3 c = search laws.walk_cut

pub returns-then-trace-at : goal.returns-then-trace-at
returns-then-trace-at c = search laws.walk_short

pub loop-at-preserved : goal.loop-at-preserved
loop-at-preserved c = search laws.walk_next

pub returns : goal.returns
returns c = search laws.walk_ends
