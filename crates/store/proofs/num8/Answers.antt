-- num8: an answer for each need; what carries weight stands in the laws.
use Rattle.std.proofs.Common.{◌≡◌, ◌∙◌, take, drop, rules}
use Rattle.store.proofs.Writes as writes
use Rattle.store.proofs.num8.Goals as goal

pub returns : goal.returns
returns c = let e : c.unwrap-bytes.result ≡ take 8 (drop c.args.i c.args.room.now) = search rules in c.from_le_bytes.ensures ∙ writes.num64_bytes _ _ _ e
