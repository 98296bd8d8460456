-- put_hex: an answer for each need; what carries weight stands in the laws.
use Rattle.text_writer.proofs.Digits as laws
use Rattle.text_writer.proofs.put_hex.Goals as goal

pub loop-i-init : goal.loop-i-init
loop-i-init c = search laws.spell_starts

pub loop-i-preserved : goal.loop-i-preserved
loop-i-preserved c = search laws.spell_turn
