-- print_row: the word, and then the numbers.
use Rattle.lines.proofs.Printing as printed
use Rattle.savings.proofs.print_row.Goals as goal

pub returns : goal.returns
returns c = search printed.joined
