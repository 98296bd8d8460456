-- quote_end: an answer for each need; what carries weight stands in the laws.
use Rattle.text_reader.proofs.ScanLaws as laws
use Rattle.text_reader.proofs.scan.quote_end.Goals as goal

pub loop-i-preserved : goal.loop-i-preserved
loop-i-preserved c = search laws.quote_turn

pub returns : goal.returns
returns c = search laws.quote_open

pub returns-in-34 : goal.returns-in-34
returns-in-34 c = search laws.quote_found

pub returns-in_default : goal.returns-in_default
returns-in_default c = search laws.quote_too_low

pub returns-in_default-2 : goal.returns-in_default-2
returns-in_default-2 c = search laws.quote_too_high
