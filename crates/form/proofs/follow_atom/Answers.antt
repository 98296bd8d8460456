-- follow_atom: one line a need; the laws are in Following.
use borrow.Author.Rules.{rules}
use Rattle.form.proofs.Following as following
use Rattle.form.proofs.follow_atom.Goals as goal

pub put_atom-k-requires : goal.put_atom-k-requires
put_atom-k-requires c = (search rules, search following.buffer_fits)

-- no goal: array-share-prefix-b
-- -- search following.prefix_few

pub returns-then-stands_at : goal.returns-then-stands_at
returns-then-stands_at c = search following.atom_stands

pub returns-else-stands_at : goal.returns-else-stands_at
returns-else-stands_at c = search following.atom_off
