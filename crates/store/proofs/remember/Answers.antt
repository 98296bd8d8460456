-- remember: an answer for each need; what carries weight stands in the laws.
use Rattle.std.proofs.Common.{◌≡◌, set}
use Rattle.store.specs.Store.{note}
use Rattle.store.proofs.Notes as notes
use Rattle.store.proofs.remember.Goals as goal

pub returns : goal.returns
unfolding note
returns c = let e : set c.args.room.now c.args.n c.with_note.result ≡ note c.args.room.now c.args.n c.args.b = cc in search notes.remembered
