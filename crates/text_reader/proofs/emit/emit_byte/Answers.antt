-- emit_byte: an answer for each need; what carries weight stands in the laws.
use Rattle.text_reader.proofs.EmitLaws as laws
use Rattle.text_reader.proofs.emit.emit_byte.Goals as goal

pub returns-in_err-at : goal.returns-in_err-at
returns-in_err-at c = search (laws.still_over, c.in_err-at.was)

pub returns-then-at-ge-FORM : goal.returns-then-at-ge-FORM
returns-then-at-ge-FORM c = search (laws.byte_over, c.in_ok-at.was)

pub returns : goal.returns
returns c = search (laws.byte_fits, c.in_ok-at.was)
