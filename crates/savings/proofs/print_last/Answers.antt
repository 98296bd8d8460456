-- print_last: the report, and then the number.
use Rattle.savings.proofs.Printing as printing
use Rattle.savings.proofs.print_last.Goals as goal

pub returns : goal.returns
returns c = search printing.last_printed
