-- begins_hex: an answer for each need; what carries weight stands in the laws.
use Rattle.text_reader.proofs.HexLaws as laws
use Rattle.text_reader.proofs.words.begins_hex.Goals as goal

pub returns-in-48 : goal.returns-in-48
returns-in-48 c = search laws.begins_hex

pub returns-in_default : goal.returns-in_default
returns-in_default c = search laws.begins_short

pub returns-in_default-2 : goal.returns-in_default-2
returns-in_default-2 c = search (laws.begins_zero, laws.begins_other)

pub returns-in_default-3 : goal.returns-in_default-3
returns-in_default-3 c = search (laws.begins_zero, laws.begins_other)
