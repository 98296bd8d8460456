-- print_place: the shortest bytes of the place are its path.
use borrow.Author.Rules.{rules}
use Rattle.match_line.proofs.Told as told
use Rattle.match_line.proofs.print_place.Goals as goal

pub print_path-requires : goal.print_path-requires
print_path-requires c = (search told.place_path, search rules)

pub returns : goal.returns
returns c = search told.place_printed
