-- operator_of: an answer for each need; what carries weight stands in the laws.
use Rattle.text_reader.proofs.NameLaws as laws
use Rattle.text_reader.proofs.words.operator_of.Goals as goal

pub loop-i-preserved : goal.loop-i-preserved
loop-i-preserved c = search laws.seek_turn

pub returns-then-c-name : goal.returns-then-c-name
returns-then-c-name c = search laws.seek_found

pub returns : goal.returns
returns c = search laws.seek_ends
