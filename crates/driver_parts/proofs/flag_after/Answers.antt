-- flag_after: one line a need; the lemmas are in Parts.
use Rattle.driver_parts.proofs.Parts as parts
use Rattle.driver_parts.proofs.flag_after.Goals as goal

pub returns-then-count : goal.returns-then-count
returns-then-count c = search parts.flag_counts

pub returns-else-count : goal.returns-else-count
returns-else-count c = search parts.flag_moves
