-- from_numbers: each number in its place.
use Rattle.library.proofs.Totals as totals
use Rattle.library.proofs.from_numbers.Goals as goal

pub returns : goal.returns
returns c = totals.savings_are _
