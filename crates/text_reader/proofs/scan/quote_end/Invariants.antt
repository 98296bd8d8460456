-- quote_end: an answer for each need; what carries weight stands in the laws.
use Prim.Native.Nat.{◌+◌}
use Rattle.text_reader.proofs.ScanLaws as laws
use Rattle.text_reader.proofs.scan.quote_end.Given as goal

abbrev pub invariant-loop-i : goal.invariant-loop-i
invariant-loop-i l = laws.Quoting l.text (l.quote + 1) l.i
