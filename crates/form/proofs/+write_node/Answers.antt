use Rattle.form.proofs.Writer as laws
use Rattle.form.proofs.+write_node.Goals as goal

pub bounds-out-0 : goal.bounds-out-0
bounds-out-0 t c = search laws.some_room

pub slice_bounds-write_node-count : goal.slice_bounds-write_node-count
slice_bounds-write_node-count t c = search laws.after_first

pub slice_bounds-write_node-start : goal.slice_bounds-write_node-start
slice_bounds-write_node-start t c = search laws.after_first

pub write_node-k-requires : goal.write_node-k-requires
write_node-k-requires t c = (search laws.falls_left, (search laws.writable_left, search laws.left_fits))

pub slice_bounds-write_node-count-in-Pair : goal.slice_bounds-write_node-count-in-Pair
slice_bounds-write_node-count-in-Pair t c = search laws.at_within

pub slice_bounds-write_node-start-in-Pair : goal.slice_bounds-write_node-start-in-Pair
slice_bounds-write_node-start-in-Pair t c = search laws.at_within

pub write_node-m-requires : goal.write_node-m-requires
write_node-m-requires t c = (search laws.falls_right, (search laws.writable_right, search laws.right_fits))

pub put_atom-requires : goal.put_atom-requires
put_atom-requires t c = (search laws.atom_few, search laws.atom_fits)

pub returns-in-Pair : goal.returns-in-Pair
returns-in-Pair t c = search laws.write_pair

pub returns-in-Atom : goal.returns-in-Atom
returns-in-Atom t c = search laws.write_done
