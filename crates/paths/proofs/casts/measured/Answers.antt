-- `paths::casts::measured` meets its contract. Assumes nothing.
use Rattle.paths.proofs.CastLaws as laws
use borrow.Author.Rules.{rules}
use Rattle.paths.proofs.casts.measured.Goals as goal

pub returns : goal.returns
returns c = search (laws.measured, rules)
