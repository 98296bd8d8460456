-- The pattern's node number falls. One law of Laws for each call and each return.
use Rattle.pattern.proofs.+match_node.Given as goal

abbrev pub decreases-match_node : goal.decreases-match_node
decreases-match_node l = l.p
