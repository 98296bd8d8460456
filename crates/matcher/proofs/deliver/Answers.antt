-- deliver: where the parts fit, they are written.
use borrow.Author.Rules.{rules}
use Rattle.matcher.proofs.Whole as laws
use Rattle.std.proofs.lemmas.Result.{err_from_is_err_and}
use Rattle.matcher.proofs.deliver.Goals as goal

pub write_parts-requires : goal.write_parts-requires
write_parts-requires c = (search rules, search (laws.parts_fit, c.in_ok-ends.ensures.ok_part))

pub returns-in_err-ends : goal.returns-in_err-ends
returns-in_err-ends c = let p = err_from_is_err_and c.from_residual.result c.from_residual.ensures.1 in rw (p.1, p.2) (search (laws.parts_long, c.in_err-ends.ensures.value, c.in_err-ends.ensures.ok_part))

pub returns : goal.returns
returns c = search (laws.parts_written, c.in_ok-ends.ensures.ok_part)
