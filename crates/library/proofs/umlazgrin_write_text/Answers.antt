-- umlazgrin_write_text: an answer for each need; what carries weight stands in the laws.
use Rattle.library.proofs.Reports as laws
use Rattle.library.proofs.umlazgrin_write_text.Goals as goal

pub returns-in-Err : goal.returns-in-Err
returns-in-Err c = search laws.write_refused

pub returns-in-Ok : goal.returns-in-Ok
returns-in-Ok c = search laws.write_done
