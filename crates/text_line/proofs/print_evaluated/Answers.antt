-- print_evaluated: by what `evaluate_text` says.
use Rattle.text_line.proofs.Laws as laws
use Rattle.text_line.proofs.print_evaluated.Goals as goal

pub slice_bounds-print_answer-end : goal.slice_bounds-print_answer-end
slice_bounds-print_answer-end c = search laws.evaluated_fits

pub slice_bounds-print_answer-end-in-Ok : goal.slice_bounds-print_answer-end-in-Ok
slice_bounds-print_answer-end-in-Ok c = search laws.evaluated_count

pub returns-in-Err : goal.returns-in-Err
returns-in-Err c = search laws.evaluated_no

pub returns-in-Ok : goal.returns-in-Ok
returns-in-Ok c = search laws.evaluated_line
