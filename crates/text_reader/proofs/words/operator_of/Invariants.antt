-- operator_of: an answer for each need; what carries weight stands in the laws.
use Rattle.text_reader.proofs.NameLaws as laws
use Rattle.text_reader.proofs.words.operator_of.Given as goal

abbrev pub invariant-loop-i : goal.invariant-loop-i
invariant-loop-i l = laws.Seeking l.c l.i
