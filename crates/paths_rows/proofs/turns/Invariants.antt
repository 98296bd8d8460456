-- turns: the turns that are left go down, as `left` says. Assumes nothing.
use Rattle.paths_rows.proofs.turns.Given as goal

abbrev pub decreases-loop-left : goal.decreases-loop-left
decreases-loop-left l = l.left
