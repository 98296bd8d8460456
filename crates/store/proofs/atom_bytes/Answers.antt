-- atom_bytes: an answer for each need; what carries weight stands in the laws.
use Rattle.std.proofs.Common.{◌≡◌, take, drop, rules}
use Rattle.store.proofs.Laws as laws
use Rattle.store.proofs.atom_bytes.Goals as goal
use Rattle.store.proofs.atom_bytes.Goals.{then-room-n-eq1, else-room-n-eq1}

pub returns : goal.returns
returns c = elim c.if-room-n-eq1.branch [
  | then-room-n-eq1 w ↦ let e : c.part.result.now ≡ take c.num-len.result (drop c.num-at.result c.args.room.now) = cc in search (rules, laws.bytes_made)
  | else-room-n-eq1 w ↦ let e : c.part.result.now ≡ take c.num-len.result (drop c.num-at.result c.args.form.now) = cc in search (rules, laws.bytes_form)
]
