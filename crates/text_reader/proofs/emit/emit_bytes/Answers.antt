-- emit_bytes: an answer for each need; what carries weight stands in the laws.
use Rattle.text_reader.proofs.EmitLaws as laws
use Rattle.text_reader.proofs.emit.emit_bytes.Goals as goal

pub returns-in_err-at : goal.returns-in_err-at
returns-in_err-at c = search (laws.still_over, c.in_err-at.was)

pub returns-then-at-b : goal.returns-then-at-b
returns-then-at-b c = search (laws.now_over, c.in_ok-at.was)

pub returns : goal.returns
returns c = search (laws.bytes_fit, laws.within_limit, c.in_ok-at.was)
