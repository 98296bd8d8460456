-- with_refusal: one line a need; the laws are in Adding.
use Rattle.totals.proofs.Adding as adding
use Rattle.totals.proofs.with_refusal.Goals as goal

pub overflow_add-t : goal.overflow_add-t
overflow_add-t c = search adding.column_fits

pub returns : goal.returns
returns c = search adding.refused_is
