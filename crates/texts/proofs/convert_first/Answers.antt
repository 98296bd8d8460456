-- convert_first: a form, and then its reading.
use Rattle.texts.proofs.Values as laws
use Rattle.texts.proofs.Bytes as bytes
use borrow.Author.Rules.{rules}
use Rattle.texts.proofs.convert_first.Goals as goal

pub slice_bounds-read_whole-end : goal.slice_bounds-read_whole-end
slice_bounds-read_whole-end c = bytes.converted_within _ _ _ c.form_of_text.ensures _ c.in_ok-n.was (search rules)

pub slice_bounds-read_whole-end-2 : goal.slice_bounds-read_whole-end-2
slice_bounds-read_whole-end-2 c = bytes.converted_count _ _ _ c.form_of_text.ensures _ c.in_ok-n.was (search rules)

pub returns-in_err-n : goal.returns-in_err-n
returns-in_err-n c = search (rules, laws.first_unconverted, c.in_err-n.was)

pub returns-in-Ok : goal.returns-in-Ok
returns-in-Ok c = search (laws.first_read, c.in_ok-n.was)

pub returns-in-Err : goal.returns-in-Err
returns-in-Err c = search (laws.first_refused, c.in_ok-n.was)
