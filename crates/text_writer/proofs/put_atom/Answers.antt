-- put_atom: an answer for each need; what carries weight stands in the laws.
use Rattle.text_writer.proofs.Endings as laws
use Rattle.text_writer.proofs.Names as names
use borrow.Author.Rules.{rules}
use Rattle.text_writer.proofs.put_atom.Goals as goal

pub bounds-out-0 : goal.bounds-out-0
bounds-out-0 c = search (laws.nil_first, names.no_bytes)

pub bounds-out-1 : goal.bounds-out-1
bounds-out-1 c = search (laws.nil_second, names.no_bytes)

pub returns-then-is_empty : goal.returns-then-is_empty
returns-then-is_empty c = search (laws.nil_wrote, names.no_bytes)

pub name-requires : goal.name-requires
name-requires c = (search names.byte_low, search names.byte_high)

pub bounds-out-0-then-has_name : goal.bounds-out-0-then-has_name
bounds-out-0-then-has_name c = search laws.named_room

pub returns-then-has_name : goal.returns-then-has_name
returns-then-has_name c = search laws.named_wrote

pub put_bytes-requires : goal.put_bytes-requires
put_bytes-requires c = (search rules, search (laws.hex_fits, names.some_bytes))

pub returns : goal.returns
returns c = search (laws.hex_wrote, names.some_bytes)
