-- two_at: one line a need; the laws are in Taking. Assumes nothing.
use Rattle.std.proofs.Common.{◌≡◌, ◌∙◌, take, drop, rules}
use Rattle.trace_bytes.proofs.Taking as laws
use Rattle.trace_bytes.proofs.two_at.Goals as goal

pub returns : goal.returns
returns c =
    let e : c.unwrap-bytes.result ≡ take 2 (drop c.args.at c.args.trace.now) = search rules in
    let f = c.from_be_bytes.ensures ∙ laws.two_is _ _ _ e in
    (rw c.from.ensures f, search rules)
