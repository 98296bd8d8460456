-- forms_in: one line a need; the laws are in Summing.
use Rattle.totals.proofs.Summing as summing
use Rattle.totals.proofs.forms_in.Goals as goal

pub loop-n-init : goal.loop-n-init
loop-n-init c = search summing.adding_starts

pub overflow_add-total : goal.overflow_add-total
overflow_add-total c = search summing.adding_fits

pub loop-n-preserved : goal.loop-n-preserved
loop-n-preserved c = search summing.adding_next

pub returns : goal.returns
returns c = search summing.adding_ends
