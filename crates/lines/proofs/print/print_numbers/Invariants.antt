-- print_numbers: an answer for each need; what carries weight stands in the laws.
use Rattle.lines.specs.Text.{numbers_text}
use Rattle.lines.proofs.Printing as printing
use Rattle.lines.proofs.print.print_numbers.Given as goal

abbrev pub invariant-loop-n : goal.invariant-loop-n
invariant-loop-n l = printing.Through numbers_text l.numbers l.initial.text l.text l.at l.k l.n-index
