-- copy: i bytes of src stand at dst's front, and the rest is as it was. Assumes nothing.
use Rattle.form.proofs.Lend as laws
use Rattle.form.proofs.copy.Given as goal

abbrev pub invariant-loop-i : goal.invariant-loop-i
invariant-loop-i l = laws.Copying l.src l.initial.dst l.dst l.i
