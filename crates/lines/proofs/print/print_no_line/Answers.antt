-- print_no_line: an answer for each need; what carries weight stands in the laws.
use borrow.Author.Rules.{rules}
use Rattle.lines.specs.Text.{no_line}
use Rattle.lines.proofs.print.print_no_line.Goals as goal

pub returns : goal.returns
unfolding no_line
returns c = search rules
