-- find: one line a need; the laws are in Entries.
use Rattle.memo.proofs.Entries as entries
use Rattle.memo.proofs.find.Given as goal

abbrev pub invariant-loop-i : goal.invariant-loop-i
invariant-loop-i l = entries.Searching l.form l.room l.row l.n l.nest l.used l.left l.i
