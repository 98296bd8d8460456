-- with_bytes: an answer for each need; what carries weight stands in the laws.
use Rattle.lines.proofs.Reading as reading
use Rattle.lines.proofs.read.with_bytes.Given as goal

abbrev pub invariant-loop-at : goal.invariant-loop-at
invariant-loop-at l = reading.Walking l.how l.bytes l.from l.initial.form l.form l.initial.line l.line l.at
