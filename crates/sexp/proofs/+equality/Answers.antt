-- equal_node and equal_records: the first node's number falls. One law of Equal for each call and each return.
use borrow.Author.Rules.{rules}
use Rattle.store.proofs.Ready.{room}
use Rattle.sexp.proofs.Equal as equal
use Rattle.sexp.proofs.+equality.Goals as goal
use Rattle.sexp.proofs.+equality.Goals.{equal_records-else-equal_node-via-then-equal_node+else-equal_node-2, equal_records-else-equal_node-via-else-equal_node}

pub equal_node-returns-then-a-b : goal.equal_node-returns-then-a-b
equal_node-returns-then-a-b t c = search equal.equal_same

pub equal_records-compare_records-requires : goal.equal_records-compare_records-requires
equal_records-compare_records-requires t c = (search room, search room)

pub equal_records-returns-then-prints_differ : goal.equal_records-returns-then-prints_differ
equal_records-returns-then-prints_differ t c = search equal.prints_tell

pub equal_records-equal_node-requires : goal.equal_records-equal_node-requires
equal_records-equal_node-requires t c = (search equal.left_falls, (search equal.left_one, search equal.left_other))

pub equal_records-equal_node-requires-then-equal_node : goal.equal_records-equal_node-requires-then-equal_node
equal_records-equal_node-requires-then-equal_node t c = (search equal.right_falls, equal.right_asks _ _ _ _ _ _ _ _ _ (search rules) c.compare_records.ensures _ c.requires.0 c.requires.1 _ _ c.equal_node.ensures)

pub equal_records-join-requires : goal.equal_records-join-requires
equal_records-join-requires t c = equal.join_alike _ _ _ _ _ _ _ _ _ (search rules) c.compare_records.ensures _ c.requires.0 c.requires.1 _ _ c.equal_node.ensures (search rules) _ _ c.equal_node-then-equal_node.ensures (search rules)

pub equal_records-returns-in-Told : goal.equal_records-returns-in-Told
equal_records-returns-in-Told t c = search equal.told

pub equal_records-returns-then-equal_node-2 : goal.equal_records-returns-then-equal_node-2
equal_records-returns-then-equal_node-2 t c = equal.joined_equal _ _ _ _ _ _ _ _ _ (search rules) c.compare_records.ensures _ c.requires.0 c.requires.1 _ _ c.equal_node.ensures (search rules) _ _ c.equal_node-then-equal_node.ensures _ c.join.ensures (search rules)

pub equal_records-returns-else-equal_node : goal.equal_records-returns-else-equal_node
equal_records-returns-else-equal_node t c = elim c.else-equal_node.branch [
  | equal_records-else-equal_node-via-then-equal_node+else-equal_node-2 w ↦ rw w.room-is (search equal.rights_differ)
  | equal_records-else-equal_node-via-else-equal_node w ↦ rw w.room-is (search equal.lefts_differ)
]
