-- The cycle: the number of the node at work falls. One law of Answers for each call and each return.
use borrow.Author.Rules.{rules}
use Rattle.store.proofs.Ready.{room, room_left, ready_left, ready_right}
use Rattle.std.proofs.lemmas.Result.{err_from_is_err_and}
use Rattle.substitute.proofs.Answers as answers
use mathlib.Core.Bool.{◌||◌}
use mathlib.Core.Path.{◌≡◌}
use Rattle.substitute.proofs.+substituting.Goals as goal
use Rattle.substitute.proofs.+substituting.Goals.{sub_each-then-x, sub_each-else-x, sub_list-then-low, sub_list-else-low}

pub sub_body-look_node-requires : goal.sub_body-look_node-requires
sub_body-look_node-requires t c = search room

pub sub_body-sub_atom-requires : goal.sub_body-sub_atom-requires
sub_body-sub_atom-requires t c = (search answers.named, search rules, search rules)

pub sub_body-is_byte_node-requires : goal.sub_body-is_byte_node-requires
sub_body-is_byte_node-requires t c = search (room_left, room)

pub sub_body-returns-then-is_byte_node : goal.sub_body-returns-then-is_byte_node
sub_body-returns-then-is_byte_node t c = answers.quote_kept _ _ _ _ _ _ _ c.look_node.ensures (answers.left_pair _ _ _ c.in-Pair.is) c.requires.0 _ c.is_byte_node.ensures (search rules)

pub sub_body-sub_head-requires : goal.sub_body-sub_head-requires
sub_body-sub_head-requires t c = (search answers.below_first, (search ready_left, search rules, search rules))

pub sub_body-sub_list-requires : goal.sub_body-sub_list-requires
sub_body-sub_list-requires t c = (search answers.below_list, (answers.done_new (answers.sub_done _ _ _ _ _ _ _ _ c.sub_head.ensures _ c.in_ok-x-in-Pair.was), answers.done_old (answers.sub_done _ _ _ _ _ _ _ _ c.sub_head.ensures _ c.in_ok-x-in-Pair.was) _ (ready_right _ _ _ _ _ _ _ c.in-Pair.is c.look_node.ensures c.requires.0), answers.done_old (answers.sub_done _ _ _ _ _ _ _ _ c.sub_head.ensures _ c.in_ok-x-in-Pair.was) _ c.requires.1, answers.done_shows (answers.sub_done _ _ _ _ _ _ _ _ c.sub_head.ensures _ c.in_ok-x-in-Pair.was) _ _ c.requires.2))

pub sub_body-returns-in_err-x-in-Pair : goal.sub_body-returns-in_err-x-in-Pair
sub_body-returns-in_err-x-in-Pair t c = let p = err_from_is_err_and c.from_residual.result c.from_residual.ensures.1 in rw (p.1, p.2) (answers.head_stops _ _ _ _ _ _ _ c.look_node.ensures (answers.left_pair _ _ _ c.in-Pair.is) c.requires.0 _ c.is_byte_node.ensures (search rules) _ _ c.sub_head.ensures _ c.in_err-x-in-Pair.was)

pub sub_body-returns-in_ok-x-in-Pair : goal.sub_body-returns-in_ok-x-in-Pair
sub_body-returns-in_ok-x-in-Pair t c = answers.head_listed _ _ _ _ _ _ _ c.look_node.ensures (answers.left_pair _ _ _ c.in-Pair.is) c.requires.0 _ c.is_byte_node.ensures (search rules) _ _ c.sub_head.ensures _ c.in_ok-x-in-Pair.was _ _ c.sub_list.ensures c.requires.1

pub sub_each-look_node-requires : goal.sub_each-look_node-requires
sub_each-look_node-requires t c = search room

pub sub_each-sub_body-requires : goal.sub_each-sub_body-requires
sub_each-sub_body-requires t c = (search answers.below_head, (search ready_left, search rules, search rules))

pub sub_each-sub_each-requires : goal.sub_each-sub_each-requires
sub_each-sub_each-requires t c = (search answers.below_tail, (answers.each_tail _ _ _ _ _ _ _ c.look_node.ensures (answers.left_pair _ _ _ c.in-Pair.is) c.requires.0 _ _ c.sub_body.ensures _ c.in_ok-x-in-Pair.was, answers.each_args _ _ _ _ _ _ _ c.look_node.ensures (answers.left_pair _ _ _ c.in-Pair.is) c.requires.0 _ _ c.sub_body.ensures _ c.in_ok-x-in-Pair.was c.requires.1, answers.each_shows _ _ _ _ _ _ _ c.look_node.ensures (answers.left_pair _ _ _ c.in-Pair.is) c.requires.0 _ _ c.sub_body.ensures _ c.in_ok-x-in-Pair.was _ _ c.requires.2))

pub sub_each-pair_node-requires : goal.sub_each-pair_node-requires
sub_each-pair_node-requires t c = (answers.each_first _ _ _ _ _ _ _ c.look_node.ensures (answers.left_pair _ _ _ c.in-Pair.is) c.requires.0 _ _ c.sub_body.ensures _ c.in_ok-x-in-Pair.was _ _ c.sub_each.ensures c.requires.1 _ c.in_ok-y-in-Pair.was, answers.done_new (answers.sub_done _ _ _ _ _ _ _ _ c.sub_each.ensures _ c.in_ok-y-in-Pair.was))

pub sub_each-returns-in-Atom : goal.sub_each-returns-in-Atom
sub_each-returns-in-Atom t c = search answers.each_end

pub sub_each-returns-in_err-x-in-Pair : goal.sub_each-returns-in_err-x-in-Pair
sub_each-returns-in_err-x-in-Pair t c = let p = err_from_is_err_and c.from_residual.result c.from_residual.ensures.1 in rw (p.1, p.2) (answers.each_stops _ _ _ _ _ _ _ c.look_node.ensures (answers.left_pair _ _ _ c.in-Pair.is) c.requires.0 _ _ c.sub_body.ensures _ c.in_err-x-in-Pair.was)

pub sub_each-returns-in_err-y-in-Pair : goal.sub_each-returns-in_err-y-in-Pair
sub_each-returns-in_err-y-in-Pair t c = let p = err_from_is_err_and c.from_residual-in_err-y-in-Pair.result c.from_residual-in_err-y-in-Pair.ensures.1 in rw (p.1, p.2) (answers.each_stops_2 _ _ _ _ _ _ _ c.look_node.ensures (answers.left_pair _ _ _ c.in-Pair.is) c.requires.0 _ _ c.sub_body.ensures _ c.in_ok-x-in-Pair.was _ _ c.sub_each.ensures c.requires.1 _ c.in_err-y-in-Pair.was)

pub sub_each-returns-after-x : goal.sub_each-returns-after-x
sub_each-returns-after-x t c =
    let low : c.if-x.low ≡ (c.in_ok-x-in-Pair.x.low || c.in_ok-y-in-Pair.y.low) = elim c.if-x.branch [ sub_each-then-x w ↦ cc (answers.low_first c.in_ok-x-in-Pair.x.low c.in_ok-y-in-Pair.y.low w.if-x.true) | sub_each-else-x w ↦ cc (answers.low_second c.in_ok-x-in-Pair.x.low c.in_ok-y-in-Pair.y.low w.if-x.false) ] in
    answers.each_made _ _ _ _ _ _ _ c.look_node.ensures (answers.left_pair _ _ _ c.in-Pair.is) c.requires.0 _ _ c.sub_body.ensures _ c.in_ok-x-in-Pair.was _ _ c.sub_each.ensures c.requires.1 _ c.in_ok-y-in-Pair.was _ _ _ _ c.pair_node.ensures low c.made.ensures

pub sub_head-look_node-requires : goal.sub_head-look_node-requires
sub_head-look_node-requires t c = search room

pub sub_head-sub_body-requires : goal.sub_head-sub_body-requires
sub_head-sub_body-requires t c = (search rules, (search rules, search rules, search rules))

pub sub_head-returns-in-Atom : goal.sub_head-returns-in-Atom
sub_head-returns-in-Atom t c = search answers.head_atom

pub sub_head-returns-in-Pair : goal.sub_head-returns-in-Pair
sub_head-returns-in-Pair t c = answers.head_pair _ _ _ _ _ _ c.look_node.ensures _ _ c.sub_body.ensures (search answers.some_pair)

pub sub_list-proper_list_node-requires : goal.sub_list-proper_list_node-requires
sub_list-proper_list_node-requires t c = search room

pub sub_list-sub_each-requires : goal.sub_list-sub_each-requires
sub_list-sub_each-requires t c = (search rules, (search rules, search rules, search rules))

pub sub_list-pair_node-requires : goal.sub_list-pair_node-requires
sub_list-pair_node-requires t c = (answers.done_old (answers.sub_done _ _ _ _ _ _ _ _ c.sub_each.ensures _ c.in_ok-t.was) _ c.requires.0, answers.done_new (answers.sub_done _ _ _ _ _ _ _ _ c.sub_each.ensures _ c.in_ok-t.was))

pub sub_list-returns-in_err-t : goal.sub_list-returns-in_err-t
sub_list-returns-in_err-t t c = let p = err_from_is_err_and c.from_residual.result c.from_residual.ensures.1 in rw (p.1, p.2) (answers.list_stops _ _ _ _ _ _ _ _ c.proper_list_node.ensures (search rules) _ _ c.sub_each.ensures _ c.in_err-t.was)

pub sub_list-returns-after-low : goal.sub_list-returns-after-low
sub_list-returns-after-low t c =
    let low : c.if-low.low ≡ (c.args.low || c.in_ok-t.t.low) = elim c.if-low.branch [ sub_list-then-low w ↦ cc (answers.low_first c.args.low c.in_ok-t.t.low w.if-low.true) | sub_list-else-low w ↦ cc (answers.low_second c.args.low c.in_ok-t.t.low w.if-low.false) ] in
    answers.list_made _ _ _ _ _ _ _ _ c.proper_list_node.ensures (search rules) _ _ c.sub_each.ensures _ c.in_ok-t.was _ _ _ _ c.pair_node.ensures low c.made.ensures c.requires.0

pub sub_list-returns-else-proper_list_node : goal.sub_list-returns-else-proper_list_node
sub_list-returns-else-proper_list_node t c = search answers.list_improper
