use Rattle.form.proofs.Writer as laws
use borrow.Author.Rules.{rules}
use Rattle.form.proofs.put_atom.Goals as goal

pub put_short-requires : goal.put_short-requires
put_short-requires c = (search laws.prefix_true, search rules, search laws.short_fits)

pub put_long-requires : goal.put_long-requires
put_long-requires c = (search laws.prefix_true, search rules, search rules, search laws.long_fits)

pub bounds-out-0 : goal.bounds-out-0
bounds-out-0 c = search laws.alone_fits

pub returns-then-is_empty : goal.returns-then-is_empty
returns-then-is_empty c = search laws.none_wrote

pub bounds-out-0-2 : goal.bounds-out-0-2
bounds-out-0-2 c = search laws.alone_fits

pub returns : goal.returns
returns c = search laws.byte_wrote
