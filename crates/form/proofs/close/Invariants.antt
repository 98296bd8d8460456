-- close: pair by pair, the last left part first. Assumes nothing.
use Rattle.form.proofs.Reader as laws
use Rattle.form.proofs.close.Given as goal

abbrev pub invariant-loop-i : goal.invariant-loop-i
invariant-loop-i l = laws.Closing l.form l.initial.room l.room l.wait l.k l.q l.initial.spent l.spent l.node l.i
