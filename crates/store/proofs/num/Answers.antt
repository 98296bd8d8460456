-- num: an answer for each need; what carries weight stands in the laws.
use Rattle.std.proofs.Common.{◌≡◌, ◌∙◌, take, drop, rules}
use Rattle.store.proofs.Writes as writes
use Rattle.store.proofs.num.Goals as goal

pub returns : goal.returns
returns c =
    let e : c.unwrap-bytes.result ≡ take 2 (drop c.args.i c.args.room.now) = search rules in
    let f = c.from_le_bytes.ensures ∙ writes.num16_bytes _ _ _ e in
    (rw c.from.ensures f, search rules)
