-- print_parts: by the count.
use borrow.Author.Rules.{rules}
use Rattle.match_line.proofs.Told as told
use Rattle.match_line.proofs.print_parts.Goals as goal

pub returns-then-e-eq0 : goal.returns-then-e-eq0
returns-then-e-eq0 c = search told.ok_none

pub slice_bounds-print_both-end : goal.slice_bounds-print_both-end
slice_bounds-print_both-end c = search told.first_count

pub print_both-b-requires : goal.print_both-b-requires
print_both-b-requires c = search told.first_within

pub returns-then-e-eq1 : goal.returns-then-e-eq1
returns-then-e-eq1 c = search told.ok_one

pub returns : goal.returns
returns c = told.ok_two _ _ _ _ _ _ _ _ _ _
    c.print_both.ensures
    c.print_both-b.ensures
    c.print_word-a.ensures
    (search rules) (search rules)
