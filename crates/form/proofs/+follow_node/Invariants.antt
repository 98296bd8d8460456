-- The one proof of follow_node's cycle: one line a need; the laws are in Following and Writer.
use Rattle.form.proofs.+follow_node.Given as goal

abbrev pub decreases-follow_node : goal.decreases-follow_node
decreases-follow_node l = l.n
