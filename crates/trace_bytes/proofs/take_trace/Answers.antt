-- take_trace: one line a need; the laws are in Taking. Assumes nothing.
use Rattle.trace_bytes.proofs.Taking as laws
use Rattle.trace_bytes.proofs.take_trace.Goals as goal

pub returns-then-trace-gt-TRACE : goal.returns-then-trace-gt-TRACE
returns-then-trace-gt-TRACE c = search laws.take_long

pub returns-then-not-starts : goal.returns-then-not-starts
returns-then-not-starts c = search laws.take_no

pub returns-then-trace-lt7 : goal.returns-then-trace-lt7
returns-then-trace-lt7 c = search laws.take_cut

pub returns-then-trace-n : goal.returns-then-trace-n
returns-then-trace-n c = search laws.take_short

pub returns-then-whole_from : goal.returns-then-whole_from
returns-then-whole_from c = search laws.take_all

pub returns-else-whole_from : goal.returns-else-whole_from
returns-else-whole_from c = search laws.take_left
