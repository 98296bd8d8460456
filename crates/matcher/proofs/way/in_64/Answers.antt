-- in_64: zeros, and after them the path's shortest bytes.
use borrow.Author.Rules.{rules}
use Rattle.matcher.proofs.WayLaws as laws
use Rattle.matcher.proofs.way.in_64.Goals as goal

pub overflow_sub-r : goal.overflow_sub-r
overflow_sub-r c = search laws.path_short

pub copy_from_slice-requires : goal.copy_from_slice-requires
copy_from_slice-requires c = laws.copy_fits c.args.path (search rules) (search rules)

pub returns : goal.returns
returns c = laws.path_placed c.args.path (search rules) (search rules) c.copy_from_slice.new.self c.copy_from_slice.ensures.after
