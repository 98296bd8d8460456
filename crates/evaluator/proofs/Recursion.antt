-- One expression: its step, and what follows it. Assumes nothing.
use Prim.Native.Nat.{◌+◌, ◌≤◌, ◌<◌}
use mathlib.Core.Path.{◌≡◌, ◌∙◌, ap}
use mathlib.Core.Bool.{true, false}
use mathlib.Core.Option.{some}
use lib.Dec.{leb}
use native.Mathlib.Omega.{arith}
use borrow.Author.Tests.{le-leb, lt-leb}
use Rattle.refusals.specs.declared.Refusal.TheVariants.{StepsOut}
use Rattle.meaning.specs.Tree.{Tree}
use Rattle.meaning.specs.Limits.{step_limit}
use Rattle.meaning.specs.Meter.{Steps, one_step}
use Rattle.meaning.specs.Evaluate.{step_b, evaluate}
use Rattle.meaning.proofs.EvalFuel.{next_step}
use Rattle.meaning.proofs.MeterLaws.{seq_at}
use Rattle.evaluator.specs.Values.{stopped}
use Rattle.evaluator.proofs.Outcomes.{seq_stopped}

abbrev pub one_more : Steps → Steps
one_more s = record { steps = s.steps + 1; units = s.units }

-- "one for each expression worked"
pub evaluate_on : (e env : Tree) (s : Steps) → s.steps < step_limit → evaluate e env s ≡ step_b evaluate e env (one_more s)
unfolding one_step
evaluate_on e env s h =
    let l : leb (s.steps + 1) step_limit ≡ true = le-leb (s.steps + 1) step_limit (omega arith) in
    next_step e env s ∙ seq_at one_step (step_b evaluate e env) s (one_more s) tt (rw (l, one_step))

-- "10 as an expression begins"
pub evaluate_out : (e env : Tree) (s : Steps) → step_limit ≤ s.steps → stopped (evaluate e env s) ≡ some StepsOut
unfolding one_step stopped
evaluate_out e env s h =
    let l : leb (s.steps + 1) step_limit ≡ false = lt-leb (s.steps + 1) step_limit (omega arith) in
    ap stopped (next_step e env s) ∙ seq_stopped one_step (step_b evaluate e env) s StepsOut (rw (l, one_step))
