use Rattle.form.proofs.Form as laws
use Rattle.std.proofs.lemmas.Result.{err_from_is_err_and}
use Rattle.form.proofs.read_form.Goals as goal

pub returns-then-stop-from-gt-FORM : goal.returns-then-stop-from-gt-FORM
returns-then-stop-from-gt-FORM c = search laws.form_long

pub returns-in_err-node : goal.returns-in_err-node
returns-in_err-node c = let p = err_from_is_err_and c.from_residual.result c.from_residual.ensures.1 in rw (p.1, p.2) (search (laws.form_refused, c.in_err-node.was))

pub returns-then-next-stop : goal.returns-then-next-stop
returns-then-next-stop c = search (laws.form_after, c.in_ok-node.was)

pub returns : goal.returns
returns c = search (laws.form_done, c.in_ok-node.was)
