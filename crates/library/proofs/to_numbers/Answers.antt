-- to_numbers: each number in its place.
use Rattle.library.proofs.Totals as totals
use Rattle.library.proofs.to_numbers.Goals as goal

pub returns : goal.returns
returns c = totals.numbers_are _
