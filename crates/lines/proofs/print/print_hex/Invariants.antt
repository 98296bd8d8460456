-- print_hex: an answer for each need; what carries weight stands in the laws.
use Rattle.lines.specs.Hex.{hex_of}
use Rattle.lines.proofs.Printing as printing
use Rattle.lines.proofs.print.print_hex.Given as goal

abbrev pub invariant-loop-x : goal.invariant-loop-x
invariant-loop-x l = printing.Through hex_of l.bytes l.initial.text l.text l.at l.k l.x-index
