-- hex_bytes: an answer for each need; what carries weight stands in the laws.
use Rattle.text_reader.proofs.DigitsLaws as laws
use Rattle.text_reader.proofs.words.hex_bytes.Given as goal

abbrev pub invariant-loop-i : goal.invariant-loop-i
invariant-loop-i l = laws.Hexing l.w l.initial.room l.room l.n l.from l.i
