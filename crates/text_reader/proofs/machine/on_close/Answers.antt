-- on_close: an answer for each need; what carries weight stands in the laws.
use Rattle.text_reader.proofs.MachineLaws as laws
use Rattle.text_reader.proofs.machine.on_close.Goals as goal

pub returns-in-First : goal.returns-in-First
returns-in-First c = search laws.close_part

pub returns-in-Bracket : goal.returns-in-Bracket
returns-in-Bracket c = search laws.close_bracket

pub returns-in-Whole : goal.returns-in-Whole
returns-in-Whole c = search laws.close_none
