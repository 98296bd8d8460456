-- read_parts: one form after the other.
use Rattle.form.proofs.Both as laws
use Rattle.std.proofs.Common.{rules}
use Rattle.std.proofs.lemmas.Result.{err_from_is_err_and}
use Rattle.form.proofs.read_parts.Goals as goal

pub read_form-requires-2 : goal.read_form-requires-2
read_form-requires-2 c =
    (laws.read_held _ _ _ _ _ _ _ _ c.in_ok-first.was c.read_form.ensures, search rules, search rules, laws.read_within _ _ _ _ _ _ _ _ c.in_ok-first.was c.read_form.ensures (search rules))

pub returns-in_err-first : goal.returns-in_err-first
returns-in_err-first c = let p = err_from_is_err_and c.from_residual.result c.from_residual.ensures.1 in rw (p.1, p.2) (search (laws.first_refused, c.in_err-first.was))

pub returns-in_err-second : goal.returns-in_err-second
returns-in_err-second c = let p = err_from_is_err_and c.from_residual-in_err-second.result c.from_residual-in_err-second.ensures.1 in rw (p.1, p.2) (search (laws.second_refused, c.in_ok-first.was, c.in_err-second.was))

pub returns : goal.returns
returns c = laws.both_nodes _ _ c.requires.1 _ _ _ c.start-ch.ensures _ c.read_form.ensures _ c.in_ok-first.was _ _ c.read_form-2.ensures _ c.in_ok-second.was
