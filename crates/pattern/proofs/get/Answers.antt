-- get: the first name, then the second.
use Rattle.pattern.proofs.Kept as kept
use Rattle.pattern.proofs.get.Goals as goal

pub returns-then-ks-eq0 : goal.returns-then-ks-eq0
returns-then-ks-eq0 c = search kept.got_zero

pub same_name-requires : goal.same_name-requires
same_name-requires c = search kept.named_room

pub returns-then-same_name : goal.returns-then-same_name
returns-then-same_name c = search kept.got_first

pub returns-then-ks-eq1 : goal.returns-then-ks-eq1
returns-then-ks-eq1 c = search kept.got_one

pub same_name-requires-2 : goal.same_name-requires-2
same_name-requires-2 c = search kept.named_room

pub returns-then-same_name-2 : goal.returns-then-same_name-2
returns-then-same_name-2 c = search kept.got_second

pub returns : goal.returns
returns c = search kept.got_neither
