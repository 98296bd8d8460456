-- is_made: the two rules.
use Rattle.driver_parts.proofs.Parts as parts
use Rattle.driver_parts.proofs.is_made.Goals as goal

pub returns-then-count : goal.returns-then-count
returns-then-count c = search parts.made_counts

pub returns-else-count : goal.returns-else-count
returns-else-count c = search parts.made_differs
