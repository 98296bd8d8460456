-- print_no: an answer for each need; what carries weight stands in the laws.
use Rattle.lines.proofs.Printing as printing
use Rattle.lines.proofs.print.print_no.Goals as goal

pub returns : goal.returns
returns c = search printing.no_ends
