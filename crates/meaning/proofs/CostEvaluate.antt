-- What an evaluation costs is the same wherever there is room. Assumes nothing.
use Prim.Native.Nat.{ℕ, zero, suc}
use mathlib.Core.List.{List, [], ◌∷◌}
use mathlib.Core.Option.{Option, none, some}
use lib.ListN.{length}
use Rattle.meaning.specs.Tree.{Tree, atom, pair, proper_list}
use Rattle.meaning.specs.Number.{number, lookup}
use Rattle.meaning.specs.Limits.{step_limit}
use Rattle.meaning.specs.Operator.{Op, Head, quoted, op, other, head_of, takes, Made, makes, runs, cannot, perform}
use Rattle.meaning.specs.Evaluate.{RunnerB, found_b, each_value_b, finish_b, call_b, operate_b, step_b, eval_b, evaluate}
use Rattle.meaning.proofs.Cost.{Steady, steady_give, steady_refuse, steady_if, steady_bind, steady_seq}
use Rattle.meaning.proofs.CostSteps.{of_evaluation, steady_units_e, steady_step}

steady_found : (o : Option Tree) → Steady of_evaluation (found_b o)
unfolding found_b
steady_found none = steady_refuse of_evaluation _
steady_found (some t) = steady_give of_evaluation t

module _ (run : RunnerB) (steady : (e env : Tree) → Steady of_evaluation (run e env)) where
  steady_each_value : (es : List Tree) (env : Tree) → Steady of_evaluation (each_value_b run es env)
  unfolding each_value_b
  steady_each_value [] env = steady_give of_evaluation []
  steady_each_value (e ∷ es) env = steady_bind of_evaluation (steady e env) (λ v. steady_bind of_evaluation (steady_each_value es env) (λ vs. steady_give of_evaluation (v ∷ vs)))

  steady_finish : (made : Made) → Steady of_evaluation (finish_b run made)
  unfolding finish_b
  steady_finish (makes t c) = steady_seq of_evaluation (steady_units_e c) (steady_give of_evaluation t)
  steady_finish (runs p e) = steady p e
  steady_finish cannot = steady_refuse of_evaluation _

  steady_call : (o : Op) (es : Option (List Tree)) (env : Tree) → Steady of_evaluation (call_b run o es env)
  unfolding call_b
  steady_call o none env = steady_refuse of_evaluation _
  steady_call o (some es) env =
      steady_if of_evaluation (takes o (length es)) (steady_bind of_evaluation (steady_each_value es env) (λ vs. steady_finish (perform o vs))) (steady_refuse of_evaluation _)

  steady_operate : (h : Head) (r env : Tree) → Steady of_evaluation (operate_b run h r env)
  unfolding operate_b
  steady_operate quoted r env = steady_give of_evaluation r
  steady_operate (op o) r env = steady_call o (proper_list r) env
  steady_operate other r env = steady_refuse of_evaluation _

  steady_step_b : (e env : Tree) → Steady of_evaluation (step_b run e env)
  unfolding step_b
  steady_step_b (atom b) env = steady_found (lookup (number b) env)
  steady_step_b (pair (atom o) r) env = steady_operate (head_of o) r env
  steady_step_b (pair (pair a b) r) env = steady_refuse of_evaluation _

steady_eval : (n : ℕ) (e env : Tree) → Steady of_evaluation (eval_b n e env)
unfolding eval_b
steady_eval zero e env = steady_refuse of_evaluation _
steady_eval (suc n) e env = steady_seq of_evaluation steady_step (steady_step_b (eval_b n) (steady_eval n) e env)

-- an evaluation's steps and units do not depend on what was spent before
pub steady_evaluate : (e env : Tree) → Steady of_evaluation (evaluate e env)
unfolding evaluate
steady_evaluate e env = steady_eval (suc step_limit) e env
