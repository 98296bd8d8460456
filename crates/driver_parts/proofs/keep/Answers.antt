-- keep: one line a need; the lemmas are in Parts.
use Rattle.driver_parts.proofs.Parts as parts
use Rattle.driver_parts.proofs.keep.Goals as goal

pub returns-then-equal_node : goal.returns-then-equal_node
returns-then-equal_node c = search parts.keep_same

pub returns : goal.returns
returns c = search parts.keep_changed
