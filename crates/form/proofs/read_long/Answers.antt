use Rattle.form.proofs.Reader as laws
use borrow.Author.Rules.{rules}
use Rattle.std.proofs.lemmas.Result.{err_from_is_err_and}
use Rattle.form.proofs.read_long.Goals as goal

pub returns-then-n-gt-ATOM : goal.returns-then-n-gt-ATOM
returns-then-n-gt-ATOM c = search (laws.long_wide, c.in_ok-n.was)

pub overflow_sub-stop : goal.overflow_sub-stop
overflow_sub-stop c = search (laws.long_within, c.in_ok-n.was)

pub returns-then-stop-from : goal.returns-then-stop-from
returns-then-stop-from c = search (laws.long_ends, c.in_ok-n.was)

pub form_atom_node-requires : goal.form_atom_node-requires
form_atom_node-requires c = (search rules, search (laws.long_place, c.in_ok-n.was), search (laws.long_part, c.in_ok-n.was), search rules)

pub returns-in_err-n : goal.returns-in_err-n
returns-in_err-n c = let p = err_from_is_err_and c.from_residual.result c.from_residual.ensures.1 in rw (p.1, p.2) (search (laws.long_refused, c.in_err-n.was))

pub returns : goal.returns
returns c = search (laws.long_made, c.in_ok-n.was)
