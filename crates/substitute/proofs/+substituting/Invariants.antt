-- The cycle: the number of the node at work falls. One law of Answers for each call and each return.
use Prim.Native.Nat.{◌+◌, ◌*◌}
use Rattle.substitute.proofs.+substituting.Given as goal

abbrev pub decreases-sub_body : goal.decreases-sub_body
decreases-sub_body l = 2 * l.body

abbrev pub decreases-sub_each : goal.decreases-sub_each
decreases-sub_each l = 2 * l.list

abbrev pub decreases-sub_head : goal.decreases-sub_head
decreases-sub_head l = 2 * l.f + 1

abbrev pub decreases-sub_list : goal.decreases-sub_list
decreases-sub_list l = 2 * l.rest + 1
