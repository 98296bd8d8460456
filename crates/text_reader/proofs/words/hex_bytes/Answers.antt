-- hex_bytes: an answer for each need; what carries weight stands in the laws.
use Rattle.text_reader.proofs.DigitsLaws as laws
use Rattle.text_reader.proofs.words.hex_bytes.Goals as goal

pub returns-then-w-eq1 : goal.returns-then-w-eq1
returns-then-w-eq1 c = search laws.odd_spells

pub loop-i-init : goal.loop-i-init
loop-i-init c = search laws.hex_starts

pub returns-in_default : goal.returns-in_default
returns-in_default c = search laws.hex_wrong

pub loop-i-preserved : goal.loop-i-preserved
loop-i-preserved c = search laws.hex_turn

pub returns : goal.returns
returns c = search laws.hex_all
