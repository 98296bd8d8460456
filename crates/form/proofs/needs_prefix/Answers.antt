use native.Mathlib.Omega.{arith}
use Rattle.form.proofs.Lengths as laws
use Rattle.form.proofs.needs_prefix.Goals as goal

pub returns-in-empty : goal.returns-in-empty
returns-in-empty c = laws.prefix_none _ (omega arith)

pub returns-in-len1 : goal.returns-in-len1
returns-in-len1 c = laws.prefix_one _ (omega arith)

pub returns-in_default : goal.returns-in_default
returns-in_default c = laws.prefix_more _ c.in_default.len_at_least
