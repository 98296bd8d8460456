-- put_last: an answer for each need; what carries weight stands in the laws.
use Rattle.text_writer.proofs.Endings as laws
use Rattle.text_writer.proofs.Names as names
use borrow.Author.Rules.{rules}
use Rattle.text_writer.proofs.put_last.Goals as goal

pub bounds-out-0 : goal.bounds-out-0
bounds-out-0 c = search (laws.last_nil_room, names.no_bytes)

pub returns-then-is_empty : goal.returns-then-is_empty
returns-then-is_empty c = search (laws.last_nil_wrote, names.no_bytes)

pub bounds-out-0-2 : goal.bounds-out-0-2
bounds-out-0-2 c = search (laws.dot_first, names.some_bytes)

pub bounds-out-1 : goal.bounds-out-1
bounds-out-1 c = search (laws.dot_second, names.some_bytes)

pub bounds-out-2 : goal.bounds-out-2
bounds-out-2 c = search (laws.dot_third, names.some_bytes)

pub slice_bounds-put_atom-count : goal.slice_bounds-put_atom-count
slice_bounds-put_atom-count c = search (laws.dot_start, names.some_bytes)

pub slice_bounds-put_atom-start : goal.slice_bounds-put_atom-start
slice_bounds-put_atom-start c = search (laws.dot_start, names.some_bytes)

pub put_atom-end-requires : goal.put_atom-end-requires
put_atom-end-requires c = (search rules, search (laws.dot_fits, names.some_bytes))

pub bounds-out-end : goal.bounds-out-end
bounds-out-end c = search (laws.end_within, names.some_bytes)

pub returns : goal.returns
returns c = search (laws.last_wrote, names.some_bytes)
