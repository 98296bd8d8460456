-- print_word: an answer for each need; what carries weight stands in the laws.
use Prim.Native.Nat.{ℕ}
use mathlib.Core.List.{List}
use Rattle.lines.proofs.Printing as printing
use Rattle.lines.proofs.print.print_word.Given as goal

abbrev pub invariant-loop-x : goal.invariant-loop-x
invariant-loop-x l = printing.Through (λ (w : List ℕ). w) l.word l.initial.text l.text l.at l.k l.x-index
