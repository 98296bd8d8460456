-- remember_tail: an answer for each need; what carries weight stands in the laws.
use Rattle.std.proofs.Common.{◌≡◌, set}
use Rattle.store.specs.Store.{note_tail}
use Rattle.store.proofs.Notes as notes
use Rattle.store.proofs.remember_tail.Goals as goal

pub returns : goal.returns
unfolding note_tail
returns c = let e : set c.args.room.now c.args.n c.with_note.result ≡ note_tail c.args.room.now c.args.n c.args.b = cc in search notes.remembered_tail
