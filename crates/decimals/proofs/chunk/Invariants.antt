-- `decimals::chunk` meets its contract. The invariant: n is what the digits from at to i say. Assumes nothing.
use Rattle.decimals.proofs.DigitLaws as laws
use Rattle.decimals.proofs.chunk.Given as goal

abbrev pub invariant-loop-i : goal.invariant-loop-i
invariant-loop-i l = laws.Chunked l.w l.at l.end l.n l.i
