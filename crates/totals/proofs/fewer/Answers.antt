-- fewer: the law is in Summing.
use mathlib.Core.Path.{◌∙◌}
use Rattle.totals.proofs.Summing as summing
use Rattle.totals.proofs.fewer.Goals as goal

pub returns : goal.returns
returns c = c.min.ensures ∙ summing.fewer_least c.args.n
