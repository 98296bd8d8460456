-- umlazgrin_text_fault: an answer for each need; what carries weight stands in the laws.
use Rattle.library.proofs.Reports as laws
use Rattle.library.proofs.umlazgrin_text_fault.Goals as goal

pub returns-in-Err : goal.returns-in-Err
returns-in-Err c = search laws.fault_refused

pub returns-in-Some : goal.returns-in-Some
returns-in-Some c = search laws.fault_at

pub returns-in-None : goal.returns-in-None
returns-in-None c = search laws.fault_none
