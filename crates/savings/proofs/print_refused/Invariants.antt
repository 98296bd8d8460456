-- print_refused: one line a need; the laws are in Printing.
use mathlib.Core.Path.{◌≡◌}
use lib.ListN.{length}
use Rattle.savings.proofs.Printing as printing
use Rattle.savings.proofs.print_refused.Given as goal

abbrev pub invariant-loop-i : goal.invariant-loop-i
invariant-loop-i l = printing.Refusing l.refused l.initial.text l.text l.at l.k l.i × (length l.text ≡ length l.initial.text)
