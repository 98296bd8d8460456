-- place: by the count.
use mathlib.Core.Path.{◌∙◌}
use borrow.Author.Rules.{rules}
use Rattle.matcher.proofs.Written as laws
use Rattle.matcher.proofs.place.Goals as goal

pub returns-then-ks-eq0 : goal.returns-then-ks-eq0
returns-then-ks-eq0 c = search laws.none_placed

pub end_both-requires : goal.end_both-requires
end_both-requires c = (search laws.name_1_writable, search laws.node_1_writable, search rules)

pub returns-then-ks-eq1 : goal.returns-then-ks-eq1
returns-then-ks-eq1 c = search (laws.one_placed, c.in_ok-a.was)

pub end_both-requires-2 : goal.end_both-requires-2
end_both-requires-2 c = (search laws.name_2_writable, search laws.node_2_writable, search (laws.between, c.in_ok-a.was))

pub returns-in_err-a : goal.returns-in_err-a
returns-in_err-a c = c.from_residual.ensures ∙ search (laws.first_long, c.in_err-a.was)

pub returns-in_err-c : goal.returns-in_err-c
returns-in_err-c c = c.from_residual-in_err-c.ensures ∙ search (laws.second_long, c.in_ok-a.was, c.in_err-c.was)

pub returns : goal.returns
returns c = search (laws.two_placed, c.in_ok-a.was, c.in_ok-c.was)
