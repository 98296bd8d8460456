-- run_text: a form, and then its run.
use Rattle.texts.proofs.Bytes as laws
use borrow.Author.Rules.{rules}
use Rattle.std.proofs.lemmas.Result.{err_from_is_err_and}
use Rattle.texts.proofs.run_text.Goals as goal

pub slice_bounds-form-end : goal.slice_bounds-form-end
slice_bounds-form-end c = laws.converted_within _ _ _ c.form_of_text.ensures _ c.in_ok-n.was (search rules)

pub slice_bounds-run_form-end : goal.slice_bounds-run_form-end
slice_bounds-run_form-end c = laws.converted_count _ _ _ c.form_of_text.ensures _ c.in_ok-n.was (search rules)

pub returns-in_err-n : goal.returns-in_err-n
returns-in_err-n c = let p = err_from_is_err_and c.from_residual.result c.from_residual.ensures.1 in rw (p.1, p.2) (search (laws.run_unconverted, c.in_err-n.was))

pub returns : goal.returns
returns c = search (laws.run_converted, c.in_ok-n.was)
