-- length_text: an answer for each need; what carries weight stands in the laws.
use Rattle.form.proofs.Writer as parts
use Rattle.text_writer.proofs.Pairs as laws
use Rattle.text_writer.proofs.+length_text.Goals as goal

pub returns-then-limit-eq0 : goal.returns-then-limit-eq0
returns-then-limit-eq0 t c = search laws.length_none

pub length_text-requires : goal.length_text-requires
length_text-requires t c = (search parts.falls_left, search parts.writable_left)

pub overflow_add-k : goal.overflow_add-k
overflow_add-k t c = search (laws.left_sum, c.in_ok-k-in-Pair.was)

pub after-o-requires : goal.after-o-requires
after-o-requires t c = search laws.room_left

pub overflow_sub-limit-in-Pair : goal.overflow_sub-limit-in-Pair
overflow_sub-limit-in-Pair t c = search (laws.left_within, c.in_ok-k-in-Pair.was)

pub length_text-requires-in-Pair : goal.length_text-requires-in-Pair
length_text-requires-in-Pair t c = (search parts.falls_right, search parts.writable_right)

pub overflow_add-result : goal.overflow_add-result
overflow_add-result t c = search (laws.both_sum, c.in_ok-k-in-Pair.was, c.in_ok-length_text-in-Pair.was)

pub end_length-k-requires : goal.end_length-k-requires
end_length-k-requires t c = search laws.atom_few

pub returns-in_err-k-in-Pair : goal.returns-in_err-k-in-Pair
returns-in_err-k-in-Pair t c = rw c.from_residual.ensures (search (laws.length_left, c.in_err-k-in-Pair.was))

pub returns-in_err-length_text-in-Pair : goal.returns-in_err-length_text-in-Pair
returns-in_err-length_text-in-Pair t c = rw c.from_residual-in_err-length_text-in-Pair.ensures (search (laws.length_right, c.in_ok-k-in-Pair.was, c.in_err-length_text-in-Pair.was))

pub returns-in_ok-length_text-in-Pair : goal.returns-in_ok-length_text-in-Pair
returns-in_ok-length_text-in-Pair t c = search (laws.length_pair, c.in_ok-k-in-Pair.was, c.in_ok-length_text-in-Pair.was)

pub returns-then-limit-k : goal.returns-then-limit-k
returns-then-limit-k t c = search laws.length_over

pub returns-else-limit-k : goal.returns-else-limit-k
returns-else-limit-k t c = search laws.length_atom
