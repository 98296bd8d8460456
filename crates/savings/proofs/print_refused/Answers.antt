-- print_refused: one line a need; the laws are in Printing.
use mathlib.Core.Path.{refl}
use borrow.Author.Rules.{rules}
use Rattle.savings.proofs.Printing as printing
use Rattle.savings.proofs.print_refused.Goals as goal

pub loop-i-init : goal.loop-i-init
loop-i-init c = (search printing.refusing_starts, refl)

pub loop-i-preserved : goal.loop-i-preserved
loop-i-preserved c = (search printing.refusing_next, search rules)

pub returns : goal.returns
returns c = search printing.refusing_ends
