use Rattle.form.proofs.Lengths as laws
use Rattle.form.proofs.more.Goals as goal

pub returns-then-stop-at : goal.returns-then-stop-at
returns-then-stop-at c = search laws.count_none

pub overflow_mul-n : goal.overflow_mul-n
overflow_mul-n c = search laws.count_times

pub overflow_add-n : goal.overflow_add-n
overflow_add-n c = search laws.count_plus

pub loop-b-preserved : goal.loop-b-preserved
loop-b-preserved c = search laws.count_turn

pub returns : goal.returns
returns c = search laws.count_ends
