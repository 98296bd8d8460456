-- write_text: an answer for each need; what carries weight stands in the laws.
use Rattle.form.proofs.Writer as parts
use Rattle.text_writer.proofs.Pairs as laws
use Rattle.text_writer.proofs.+write_text.Goals as goal

pub after-o-requires : goal.after-o-requires
after-o-requires t c = search laws.room_left

pub bounds-out-0 : goal.bounds-out-0
bounds-out-0 t c = search laws.some_room

pub slice_bounds-write_text-count : goal.slice_bounds-write_text-count
slice_bounds-write_text-count t c = search laws.after_first

pub slice_bounds-write_text-start : goal.slice_bounds-write_text-start
slice_bounds-write_text-start t c = search laws.after_first

pub write_text-at-requires : goal.write_text-at-requires
write_text-at-requires t c = (search parts.falls_left, (search parts.writable_left, search laws.left_fits))

pub slice_bounds-write_text-count-in-Pair : goal.slice_bounds-write_text-count-in-Pair
slice_bounds-write_text-count-in-Pair t c = search laws.at_within

pub slice_bounds-write_text-start-in-Pair : goal.slice_bounds-write_text-start-in-Pair
slice_bounds-write_text-start-in-Pair t c = search laws.at_within

pub write_text-requires : goal.write_text-requires
write_text-requires t c = (search parts.falls_right, (search parts.writable_right, search laws.right_fits))

pub put_end-requires : goal.put_end-requires
put_end-requires t c = (search laws.atom_few, search laws.atom_fits)

pub returns-in-Pair : goal.returns-in-Pair
returns-in-Pair t c = search laws.write_pair

pub returns-in-Atom : goal.returns-in-Atom
returns-in-Atom t c = search laws.write_done
