-- alike: fewer left parts within left parts at each call. One line a need; the laws are in Comparing.
use Rattle.memo.proofs.Comparing as comparing
use Rattle.memo.proofs.+alike.Given as goal

abbrev pub decreases-alike : goal.decreases-alike
decreases-alike l = l.deep

abbrev pub invariant-loop-a : goal.invariant-loop-a
invariant-loop-a l = comparing.Going l.form l.room l.deep l.x l.y l.looks l.a l.b l.left

abbrev pub decreases-loop-a : goal.decreases-loop-a
decreases-loop-a l = l.a
