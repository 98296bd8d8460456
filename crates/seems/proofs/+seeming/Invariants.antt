-- The cycle: the node's number falls. One law of Laws for each call and each return.
use Rattle.seems.proofs.+seeming.Given as goal

abbrev pub decreases-seems_constant : goal.decreases-seems_constant
decreases-seems_constant l = l.n

abbrev pub decreases-seems_constant_tail : goal.decreases-seems_constant_tail
decreases-seems_constant_tail l = l.n
