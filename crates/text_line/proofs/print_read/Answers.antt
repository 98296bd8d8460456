-- print_read: by what `read_text` says.
use Rattle.text_line.proofs.Laws as laws
use Rattle.text_line.proofs.print_read.Goals as goal

pub slice_bounds-print_answer-end : goal.slice_bounds-print_answer-end
slice_bounds-print_answer-end c = search laws.read_fits

pub slice_bounds-print_answer-end-in-Ok : goal.slice_bounds-print_answer-end-in-Ok
slice_bounds-print_answer-end-in-Ok c = search laws.read_count

pub returns-in-Err : goal.returns-in-Err
returns-in-Err c = search laws.read_no

pub returns-in-Ok : goal.returns-in-Ok
returns-in-Ok c = search laws.read_line
