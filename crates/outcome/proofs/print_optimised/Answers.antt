-- print_optimised: by what `optimise` says.
use Rattle.outcome.proofs.Laws as laws
use Rattle.outcome.proofs.print_optimised.Goals as goal

pub slice_bounds-print_answer-end : goal.slice_bounds-print_answer-end
slice_bounds-print_answer-end c = search laws.optimised_fits

pub slice_bounds-print_answer-end-in-Ok : goal.slice_bounds-print_answer-end-in-Ok
slice_bounds-print_answer-end-in-Ok c = search laws.optimised_count

pub returns-in-Err : goal.returns-in-Err
returns-in-Err c = search laws.optimised_no

pub returns-in-Ok : goal.returns-in-Ok
returns-in-Ok c = search laws.optimised_line
