-- The cycle: the node's number falls. One law of Laws for each call and each return.
use borrow.Author.Rules.{rules}
use Rattle.meaning.specs.Constant as meaning
use Rattle.store.proofs.Ready.{room, ready_left, ready_right}
use Rattle.seems.proofs.Laws as laws
use Rattle.seems.proofs.+seeming.Goals as goal

pub seems_constant-look_node-requires : goal.seems_constant-look_node-requires
seems_constant-look_node-requires t c = search room

pub seems_constant-noted-k-requires : goal.seems_constant-noted-k-requires
seems_constant-noted-k-requires t c = search room

pub seems_constant-returns-then-k-ge2 : goal.seems_constant-returns-then-k-ge2
seems_constant-returns-then-k-ge2 t c = search laws.known

pub seems_constant-look_node-requires-in-Pair : goal.seems_constant-look_node-requires-in-Pair
seems_constant-look_node-requires-in-Pair t c = search laws.room_left

pub seems_constant-seems_constant-requires : goal.seems_constant-seems_constant-requires
seems_constant-seems_constant-requires t c = (search laws.below_left, search ready_left)

pub seems_constant-seems_constant_tail-b-requires : goal.seems_constant-seems_constant_tail-b-requires
seems_constant-seems_constant_tail-b-requires t c = (search laws.below_right, laws.go_right c.seems_constant.ensures (search rules) c.look_node.ensures c.requires)

pub seems_constant-remember-requires : goal.seems_constant-remember-requires
seems_constant-remember-requires t c = (laws.after_two c.seems_constant_tail-b.ensures c.seems_constant.ensures c.requires, laws.ask_yes c.seems_constant_tail-b.ensures c.seems_constant.ensures (search rules) c.look_node.ensures (search rules) c.look_node-in-Pair.ensures (search laws.some_pair) c.requires)

pub seems_constant-remember-requires-else-seems_constant : goal.seems_constant-remember-requires-else-seems_constant
seems_constant-remember-requires-else-seems_constant t c = (laws.after c.seems_constant.ensures c.requires, laws.ask_no c.seems_constant.ensures (search rules) c.look_node.ensures (search laws.left_pair) c.look_node-in-Pair.ensures (search laws.some_pair) c.requires)

pub seems_constant-is_byte_node-requires : goal.seems_constant-is_byte_node-requires
seems_constant-is_byte_node-requires t c = search laws.room_left

pub seems_constant-is_byte_node-requires-else-is_byte_node : goal.seems_constant-is_byte_node-requires-else-is_byte_node
seems_constant-is_byte_node-requires-else-is_byte_node t c = search laws.room_left

pub seems_constant-seems_constant_tail-b-requires-else-is_byte_node-2 : goal.seems_constant-seems_constant_tail-b-requires-else-is_byte_node-2
seems_constant-seems_constant_tail-b-requires-else-is_byte_node-2 t c = (search laws.below_right, search ready_right)

pub seems_constant-remember-requires-else-is_byte_node-2 : goal.seems_constant-remember-requires-else-is_byte_node-2
seems_constant-remember-requires-else-is_byte_node-2 t c = (laws.after c.seems_constant_tail-b-else-is_byte_node-2.ensures c.requires, laws.ask_other c.seems_constant_tail-b-else-is_byte_node-2.ensures c.look_node.ensures (search rules) c.look_node-in-Pair.ensures (search rules) c.is_byte_node.ensures (search rules) c.is_byte_node-else-is_byte_node.ensures (search rules) c.requires)

pub seems_constant-is_nil_node-requires : goal.seems_constant-is_nil_node-requires
seems_constant-is_nil_node-requires t c = search room

pub seems_constant-returns-then-seems_constant : goal.seems_constant-returns-then-seems_constant
seems_constant-returns-then-seems_constant t c = laws.back_two meaning.seems_constant c.remember.ensures.answered c.seems_constant_tail-b.ensures c.seems_constant.ensures c.requires

pub seems_constant-returns-else-seems_constant : goal.seems_constant-returns-else-seems_constant
seems_constant-returns-else-seems_constant t c = laws.back meaning.seems_constant c.remember-else-seems_constant.ensures.answered c.seems_constant.ensures c.requires

pub seems_constant-returns-then-is_byte_node : goal.seems_constant-returns-then-is_byte_node
seems_constant-returns-then-is_byte_node t c = search laws.one

pub seems_constant-returns-then-is_byte_node-2 : goal.seems_constant-returns-then-is_byte_node-2
seems_constant-returns-then-is_byte_node-2 t c = search laws.eight

pub seems_constant-returns-else-is_byte_node-2 : goal.seems_constant-returns-else-is_byte_node-2
seems_constant-returns-else-is_byte_node-2 t c = laws.back meaning.seems_constant c.remember-else-is_byte_node-2.ensures.answered c.seems_constant_tail-b-else-is_byte_node-2.ensures c.requires

pub seems_constant-returns-in-Atom : goal.seems_constant-returns-in-Atom
seems_constant-returns-in-Atom t c = search laws.atom_nil

pub seems_constant_tail-look_node-requires : goal.seems_constant_tail-look_node-requires
seems_constant_tail-look_node-requires t c = search room

pub seems_constant_tail-noted_tail-k-requires : goal.seems_constant_tail-noted_tail-k-requires
seems_constant_tail-noted_tail-k-requires t c = search room

pub seems_constant_tail-returns-then-k-ge2 : goal.seems_constant_tail-returns-then-k-ge2
seems_constant_tail-returns-then-k-ge2 t c = search laws.knows_tail

pub seems_constant_tail-seems_constant-requires : goal.seems_constant_tail-seems_constant-requires
seems_constant_tail-seems_constant-requires t c = (search laws.below_left, search ready_left)

pub seems_constant_tail-seems_constant_tail-b-requires : goal.seems_constant_tail-seems_constant_tail-b-requires
seems_constant_tail-seems_constant_tail-b-requires t c = (search laws.below_right, laws.go_right c.seems_constant.ensures (search rules) c.look_node.ensures c.requires)

pub seems_constant_tail-remember_tail-requires : goal.seems_constant_tail-remember_tail-requires
seems_constant_tail-remember_tail-requires t c = (laws.after_two c.seems_constant_tail-b.ensures c.seems_constant.ensures c.requires, laws.ask_tail_yes c.seems_constant_tail-b.ensures c.seems_constant.ensures (search rules) c.look_node.ensures (search rules) c.requires)

pub seems_constant_tail-remember_tail-requires-else-seems_constant : goal.seems_constant_tail-remember_tail-requires-else-seems_constant
seems_constant_tail-remember_tail-requires-else-seems_constant t c = (laws.after c.seems_constant.ensures c.requires, laws.ask_tail_no c.seems_constant.ensures (search rules) c.look_node.ensures (search laws.left_pair) c.requires)

pub seems_constant_tail-is_nil_node-requires : goal.seems_constant_tail-is_nil_node-requires
seems_constant_tail-is_nil_node-requires t c = search room

pub seems_constant_tail-returns-then-seems_constant : goal.seems_constant_tail-returns-then-seems_constant
seems_constant_tail-returns-then-seems_constant t c = laws.back_two meaning.seems_constant_tail c.remember_tail.ensures.answered c.seems_constant_tail-b.ensures c.seems_constant.ensures c.requires

pub seems_constant_tail-returns-else-seems_constant : goal.seems_constant_tail-returns-else-seems_constant
seems_constant_tail-returns-else-seems_constant t c = laws.back meaning.seems_constant_tail c.remember_tail-else-seems_constant.ensures.answered c.seems_constant.ensures c.requires

pub seems_constant_tail-returns-in-Atom : goal.seems_constant_tail-returns-in-Atom
seems_constant_tail-returns-in-Atom t c = search laws.atom_nil_tail
