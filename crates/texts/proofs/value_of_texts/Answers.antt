-- value_of_texts: both forms, and then the value.
use Rattle.texts.proofs.Values as laws
use Rattle.std.proofs.lemmas.Result.{err_from_is_err_and}
use Rattle.texts.proofs.value_of_texts.Goals as goal

pub slice_bounds-forms-end : goal.slice_bounds-forms-end
slice_bounds-forms-end c = laws.both_within _ _ _ _ c.convert_both.ensures _ c.in_ok-first.was

pub slice_bounds-value_of_forms-end : goal.slice_bounds-value_of_forms-end
slice_bounds-value_of_forms-end c = laws.both_count _ _ _ _ c.convert_both.ensures _ c.in_ok-first.was

pub returns-in_err-first : goal.returns-in_err-first
returns-in_err-first c = let p = err_from_is_err_and c.from_residual.result c.from_residual.ensures.1 in rw (p.1, p.2) (search (laws.both_refused, c.in_err-first.was))

pub returns : goal.returns
returns c = search (laws.both_valued, c.in_ok-first.was)
