-- name_from: by the first byte.
use Rattle.match_line.proofs.Found as found
use Rattle.match_line.proofs.name_from.Goals as goal

pub returns-then-name-eq0 : goal.returns-then-name-eq0
returns-then-name-eq0 c = search found.from_none

pub returns-then-x-lt128 : goal.returns-then-x-lt128
returns-then-x-lt128 c = search found.from_alone

pub returns-then-x-lt192 : goal.returns-then-x-lt192
returns-then-x-lt192 c = search found.from_one

pub returns-then-name-eq1 : goal.returns-then-name-eq1
returns-then-name-eq1 c = search found.from_end

pub returns : goal.returns
returns c = search found.from_two
