-- build: one line a need; the lemmas are in Parts.
use Rattle.driver_parts.proofs.Parts as parts
use Rattle.driver_parts.proofs.build.Goals as goal

pub returns-then-not-make : goal.returns-then-not-make
returns-then-not-make c = search parts.build_none

pub returns : goal.returns
returns c = search parts.build_made
