-- print_numbers: an answer for each need; what carries weight stands in the laws.
use Rattle.lines.specs.Text.{numbers_text}
use Rattle.lines.proofs.Printing as printing
use Rattle.lines.proofs.print.print_numbers.Goals as goal

pub loop-n-init : goal.loop-n-init
loop-n-init c = search (printing.starts numbers_text printing.number_each)

pub loop-n-preserved : goal.loop-n-preserved
loop-n-preserved c = search (printing.turn numbers_text printing.number_each)

pub returns : goal.returns
returns c = search printing.numbers_end
