-- print_path: the word, the atom's form in hex, and the line's end.
use Rattle.match_line.proofs.Told as told
use Rattle.match_line.proofs.print_path.Goals as goal

pub put_atom-n-requires : goal.put_atom-n-requires
put_atom-n-requires c = (search told.path_atom, search told.path_fits)

pub slice_bounds-print_hex-end : goal.slice_bounds-print_hex-end
slice_bounds-print_hex-end c = search told.path_within

pub slice_bounds-print_hex-end-2 : goal.slice_bounds-print_hex-end-2
slice_bounds-print_hex-end-2 c = search told.path_count

pub returns : goal.returns
returns c = told.path_printed _ _ _ _ _ _ _ _ _ _ _ _ c.print_word.ensures c.print_hex-b.ensures c.print_word-a.ensures c.put_atom-n.ensures
