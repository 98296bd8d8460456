-- finish: one line a need; the lemmas are in Parts.
use Rattle.driver_parts.proofs.Parts as parts
use Rattle.driver_parts.proofs.finish.Goals as goal

pub returns-then-moved : goal.returns-then-moved
returns-then-moved c = search parts.finish_moved

pub returns : goal.returns
returns c = search parts.finish_still
