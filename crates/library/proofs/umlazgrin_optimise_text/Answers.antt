-- umlazgrin_optimise_text: an answer for each need; what carries weight stands in the laws.
use Rattle.library.proofs.Reports as laws
use Rattle.library.proofs.umlazgrin_optimise_text.Goals as goal

pub returns-in-Err : goal.returns-in-Err
returns-in-Err c = search laws.optimise_refused

pub returns-in-Ok : goal.returns-in-Ok
returns-in-Ok c = search laws.optimise_done
