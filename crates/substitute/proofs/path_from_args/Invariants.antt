-- path_from_args: an answer for each need; what carries weight stands in the laws.
use Rattle.substitute.proofs.Turns as turns
use Rattle.substitute.proofs.path_from_args.Given as goal

abbrev pub invariant-loop-i : goal.invariant-loop-i
invariant-loop-i l = turns.Walking l.form l.initial.room l.room l.initial.made.ch l.made.ch l.n l.args l.count l.made.node l.i
