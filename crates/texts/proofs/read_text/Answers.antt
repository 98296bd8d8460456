-- read_text: a form, and then what `form::write` makes of it.
use Rattle.texts.proofs.Bytes as laws
use borrow.Author.Rules.{rules}
use Rattle.texts.proofs.read_text.Goals as goal

pub returns-then-room-lt-ROOM : goal.returns-then-room-lt-ROOM
returns-then-room-lt-ROOM c = search laws.read_small

pub slice_bounds-form-end : goal.slice_bounds-form-end
slice_bounds-form-end c = laws.converted_within _ _ _ c.form_of_text.ensures _ c.in-Ok.is (search rules)

pub slice_bounds-write-end : goal.slice_bounds-write-end
slice_bounds-write-end c = laws.converted_count _ _ _ c.form_of_text.ensures _ c.in-Ok.is (search rules)

pub returns-in-Err : goal.returns-in-Err
returns-in-Err c = search laws.read_refused

pub returns-in-Ok : goal.returns-in-Ok
returns-in-Ok c = search laws.read_written
