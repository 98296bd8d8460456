-- put_hex: an answer for each need; what carries weight stands in the laws.
use Rattle.text_writer.proofs.Digits as laws
use Rattle.text_writer.proofs.put_hex.Given as goal

abbrev pub invariant-loop-i : goal.invariant-loop-i
invariant-loop-i l = laws.Spelling l.b l.initial.out l.out l.i
