-- write_parts: by the count.
use Rattle.matcher.proofs.Written as laws
use Rattle.matcher.proofs.write_parts.Goals as goal

pub returns-then-ks-eq0 : goal.returns-then-ks-eq0
returns-then-ks-eq0 c = search laws.none_written

pub write_both-at-requires : goal.write_both-at-requires
write_both-at-requires c = (search laws.name_1_writable, search laws.node_1_writable, search laws.first_room)

pub returns-then-ks-eq1 : goal.returns-then-ks-eq1
returns-then-ks-eq1 c = search laws.one_written

pub write_both-k-requires : goal.write_both-k-requires
write_both-k-requires c = (search laws.name_2_writable, search laws.node_2_writable, search laws.second_room)

pub returns : goal.returns
returns c = laws.two_written _ _ _ _ c.requires.0 _ c.requires.1 _ _ c.write_both-at.ensures c.if-ks-eq0.false c.if-ks-eq1.false _ _ c.write_both-k.ensures
