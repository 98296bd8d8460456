-- append_atom: an answer for each need; what carries weight stands in the laws.
use Rattle.std.proofs.Common.{◌<◌, ◌≤◌, length, refl, arith, rules, length-take, length-drop}
use Rattle.store.proofs.Atoms as atoms
use Rattle.store.proofs.append_atom.Goals as goal

pub overflow_sub-at : goal.overflow_sub-at
overflow_sub-at c = search (atoms.fits_below, rules)

pub copy_from_slice-requires : goal.copy_from_slice-requires
copy_from_slice-requires c =
    let h : length c.args.b.now ≤ c.args.ch.top = search (atoms.fits_below, rules) in
    let o : c.args.ch.top < 65536 = search rules in
    let z : 65536 ≤ length c.args.room.now = search rules in
    simp (length-take, length-drop) (omega arith)

pub put_atom-requires : goal.put_atom-requires
put_atom-requires c = (search (atoms.copied_room, rules), search rules, search rules)

pub returns : goal.returns
returns c =
    let h : length c.args.b.now ≤ c.args.ch.top = search (atoms.fits_below, rules) in
    atoms.put_made _ _ _ _ _ _ _ c.put_atom.ensures (atoms.copied _ _ _ _ _ (search rules) (omega arith) c.copy_from_slice.ensures.after) refl (search rules) (search rules) (search rules)
