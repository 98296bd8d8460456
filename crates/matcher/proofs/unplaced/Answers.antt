-- unplaced: 64 zeros.
use borrow.Author.Rules.{rules}
use Rattle.meaning.specs.Match.{place_bytes}
use Rattle.matcher.proofs.unplaced.Goals as goal

pub returns : goal.returns
unfolding place_bytes
returns c = search rules
