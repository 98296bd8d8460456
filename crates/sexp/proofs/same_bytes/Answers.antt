-- same_bytes: an answer for each need; what carries weight stands in the laws.
use Rattle.std.proofs.Common.{◌∙◌}
use Rattle.sexp.proofs.Equal as equal
use Rattle.sexp.proofs.same_bytes.Goals as goal

pub returns : goal.returns
returns c = c.eq.ensures ∙ equal.bytes_are c.args.x.now c.args.y.now
