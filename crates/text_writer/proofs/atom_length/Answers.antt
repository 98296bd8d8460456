-- atom_length: an answer for each need; what carries weight stands in the laws.
use Rattle.text_writer.proofs.Endings as laws
use Rattle.text_writer.proofs.Names as names
use Rattle.text_writer.proofs.atom_length.Goals as goal

pub returns-then-is_empty : goal.returns-then-is_empty
returns-then-is_empty c = search (laws.nil_length, names.no_bytes)

pub returns-then-has_name : goal.returns-then-has_name
returns-then-has_name c = search laws.named_length

pub returns-else-has_name : goal.returns-else-has_name
returns-else-has_name c = search (laws.hex_long, names.some_bytes)
