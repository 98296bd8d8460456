-- with_bytes: an answer for each need; what carries weight stands in the laws.
use Rattle.lines.proofs.Reading as reading
use Rattle.lines.proofs.read.with_bytes.Goals as goal

pub returns-then-bytes-at-eq10 : goal.returns-then-bytes-at-eq10
returns-then-bytes-at-eq10 c = search reading.walk_newline

pub loop-at-preserved : goal.loop-at-preserved
loop-at-preserved c = search reading.walk_turn

pub returns : goal.returns
returns c = search reading.walk_ends
