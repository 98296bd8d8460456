-- convert_both: the program first, and the environment behind it.
use Rattle.texts.proofs.Values as laws
use borrow.Author.Rules.{rules}
use Rattle.std.proofs.lemmas.Result.{err_from_is_err_and}
use Rattle.texts.proofs.convert_both.Goals as goal

pub returns-in_err-first : goal.returns-in_err-first
returns-in_err-first c = let p = err_from_is_err_and c.from_residual.result c.from_residual.ensures.1 in rw (p.1, p.2) (search (laws.program_refused, c.in_err-first.was))

pub returns-in_err-n : goal.returns-in_err-n
returns-in_err-n c = let p = err_from_is_err_and c.from_residual-in_err-n.result c.from_residual-in_err-n.ensures.1 in rw (p.1, p.2) (search (laws.environment_refused, c.in_ok-first.was, c.in_err-n.was))

pub slice_bounds-form_of_text-count-2 : goal.slice_bounds-form_of_text-count-2
slice_bounds-form_of_text-count-2 c = laws.program_within c.args.texts.now _ c.args.mid _ c.convert_first.ensures _ c.in_ok-first.was (search rules)

pub slice_bounds-form_of_text-start-2 : goal.slice_bounds-form_of_text-start-2
slice_bounds-form_of_text-start-2 c = laws.program_within c.args.texts.now _ c.args.mid _ c.convert_first.ensures _ c.in_ok-first.was (search rules)

pub form_of_text-requires : goal.form_of_text-requires
form_of_text-requires c = (search rules, laws.environment_room c.args.texts.now _ c.args.mid _ c.convert_first.ensures _ c.in_ok-first.was (search rules))

pub overflow_add-result : goal.overflow_add-result
overflow_add-result c = laws.sum_small c.args.texts.now _ c.args.mid _ c.convert_first.ensures _ c.in_ok-first.was _ _ c.form_of_text.ensures _ c.in_ok-n.was

pub returns : goal.returns
returns c = laws.environment_read c.args.texts.now _ c.args.mid _ c.convert_first.ensures _ c.in_ok-first.was _ _ c.form_of_text.ensures _ c.in_ok-n.was (search rules) (search rules)
