use Rattle.form.proofs.Writer as laws
use Rattle.form.proofs.+length_node.Goals as goal

pub returns-then-limit-eq0 : goal.returns-then-limit-eq0
returns-then-limit-eq0 t c = search laws.length_none

pub length_node-requires : goal.length_node-requires
length_node-requires t c = (search laws.falls_left, search laws.writable_left)

pub overflow_add-k : goal.overflow_add-k
overflow_add-k t c = search (laws.left_sum, c.in_ok-k-in-Pair.was)

pub overflow_sub-limit-in-Pair : goal.overflow_sub-limit-in-Pair
overflow_sub-limit-in-Pair t c = search (laws.left_within, c.in_ok-k-in-Pair.was)

pub length_node-requires-in-Pair : goal.length_node-requires-in-Pair
length_node-requires-in-Pair t c = (search laws.falls_right, search laws.writable_right)

pub overflow_add-result : goal.overflow_add-result
overflow_add-result t c = search (laws.both_sum, c.in_ok-k-in-Pair.was, c.in_ok-length_node-in-Pair.was)

pub atom_length-k-requires : goal.atom_length-k-requires
atom_length-k-requires t c = search laws.atom_few

pub returns-in_err-k-in-Pair : goal.returns-in_err-k-in-Pair
returns-in_err-k-in-Pair t c = rw c.from_residual.ensures (search (laws.length_left, c.in_err-k-in-Pair.was))

pub returns-in_err-length_node-in-Pair : goal.returns-in_err-length_node-in-Pair
returns-in_err-length_node-in-Pair t c = rw c.from_residual-in_err-length_node-in-Pair.ensures (search (laws.length_right, c.in_ok-k-in-Pair.was, c.in_err-length_node-in-Pair.was))

pub returns-in_ok-length_node-in-Pair : goal.returns-in_ok-length_node-in-Pair
returns-in_ok-length_node-in-Pair t c = search (laws.length_pair, c.in_ok-k-in-Pair.was, c.in_ok-length_node-in-Pair.was)

pub returns-then-limit-k : goal.returns-then-limit-k
returns-then-limit-k t c = search laws.length_over

pub returns-else-limit-k : goal.returns-else-limit-k
returns-else-limit-k t c = search laws.length_atom
