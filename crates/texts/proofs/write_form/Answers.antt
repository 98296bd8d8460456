-- write_form: by what the reading said, and what deliver_text says.
use Rattle.texts.proofs.Bytes as laws
use Rattle.form.proofs.Bytes.{whole_writable}
use Rattle.std.proofs.lemmas.Result.{err_from_is_err_and}
use Rattle.texts.proofs.write_form.Goals as goal

pub deliver_text-requires : goal.deliver_text-requires
deliver_text-requires c = search (whole_writable, c.in_ok-node.was)

pub returns-in_err-node : goal.returns-in_err-node
returns-in_err-node c = let p = err_from_is_err_and c.from_residual.result c.from_residual.ensures.1 in rw (p.1, p.2) (search (laws.form_refused, c.in_err-node.was))

pub returns-in_err-length : goal.returns-in_err-length
returns-in_err-length c = let p = err_from_is_err_and c.from_residual-in_err-length.result c.from_residual-in_err-length.ensures.1 in rw (p.1, p.2) (search (laws.form_over, c.in_ok-node.was, c.in_err-length.ensures.value, c.in_err-length.ensures.ok_part))

pub returns : goal.returns
returns c = search (laws.form_fits, c.in_ok-node.was, c.in_ok-length.ensures.ok_part)
