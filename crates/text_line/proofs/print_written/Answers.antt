-- print_written: by what `write_text` says.
use Rattle.text_line.proofs.Laws as laws
use Rattle.text_line.proofs.print_written.Goals as goal

pub slice_bounds-print_ok-end : goal.slice_bounds-print_ok-end
slice_bounds-print_ok-end c = search laws.written_fits

pub slice_bounds-print_ok-end-in-Ok : goal.slice_bounds-print_ok-end-in-Ok
slice_bounds-print_ok-end-in-Ok c = search laws.written_count

pub returns-in-Err : goal.returns-in-Err
returns-in-Err c = search laws.written_no

pub returns-in-Ok : goal.returns-in-Ok
returns-in-Ok c = search laws.written_line
