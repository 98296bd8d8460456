-- last_length: an answer for each need; what carries weight stands in the laws.
use Rattle.text_writer.proofs.Endings as laws
use Rattle.text_writer.proofs.Names as names
use Rattle.text_writer.proofs.last_length.Goals as goal

pub overflow_add-result : goal.overflow_add-result
overflow_add-result c = search laws.last_small

pub returns-else-is_empty : goal.returns-else-is_empty
returns-else-is_empty c = search (laws.last_length, names.some_bytes)

pub returns-then-is_empty : goal.returns-then-is_empty
returns-then-is_empty c = search (laws.last_nil_length, names.no_bytes)
