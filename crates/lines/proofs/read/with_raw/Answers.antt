-- with_raw: an answer for each need; what carries weight stands in the laws.
use Rattle.lines.proofs.Reading as reading
use Rattle.lines.proofs.read.with_raw.Goals as goal

pub returns-then-form-l : goal.returns-then-form-l
returns-then-form-l c = search reading.raw_dropped

pub returns : goal.returns
returns c = search reading.raw_kept
