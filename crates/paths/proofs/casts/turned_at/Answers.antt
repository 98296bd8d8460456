-- `paths::casts::turned_at` meets its contract. Assumes nothing.
use Rattle.paths.proofs.FourLaws as laws
use Rattle.paths.proofs.casts.turned_at.Goals as goal

pub returns-then-i-remain : goal.returns-then-i-remain
returns-then-i-remain c = search laws.turned_before

pub returns : goal.returns
returns c = search laws.turned_group
