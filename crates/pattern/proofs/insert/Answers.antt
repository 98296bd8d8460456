-- insert: by the count.
use Rattle.pattern.proofs.Kept as kept
use Rattle.pattern.proofs.insert.Goals as goal

pub returns-in-0 : goal.returns-in-0
returns-in-0 c = search kept.inserted_first

pub returns-in-1 : goal.returns-in-1
returns-in-1 c = search kept.inserted_one

pub returns-in_default : goal.returns-in_default
returns-in_default c = search kept.inserted_two
