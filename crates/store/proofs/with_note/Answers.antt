-- with_note: an answer for each need.
use Rattle.std.proofs.Common.{rules}
use Rattle.store.specs.Store.{digit}
use Rattle.store.proofs.with_note.Goals as goal
use Rattle.store.proofs.with_note.Goals.{then-b, else-b}

pub returns : goal.returns
unfolding digit
returns g c = elim c.if-b.branch [ then-b w ↦ search rules | else-b w ↦ search rules ]
