-- print_both: a blank, the name, `=`, the tree.
use mathlib.Core.Path.{sym}
use lib.Seq.{length-take-le}
use borrow.Author.Rules.{rules}
use Rattle.match_line.proofs.Told as told
use Rattle.match_line.proofs.print_both.Goals as goal

pub slice_bounds-name-end : goal.slice_bounds-name-end
slice_bounds-name-end c = sym (length-take-le _ _ (search rules))

pub returns : goal.returns
returns c = told.both_printed _ _ _ _ _ _ _ _ _ _ _ _ _ c.name_from-from.ensures
    c.print_hex.ensures
    c.print_word-c.ensures
    c.print_hex-b.ensures
    c.print_word-a.ensures
