-- Enough depth is enough for the bounded evaluator: each expression takes a step, so before the depth runs out the steps do. Assumes nothing.
use Prim.Native.Nat.{ℕ, zero, suc, ◌+◌, ◌≤◌, ◌<◌}
use mathlib.Core.Path.{◌≡◌, refl, sym, ◌∙◌}
use mathlib.Core.List.{List, [], ◌∷◌}
use mathlib.Core.Option.{Option, none, some}
use lib.Dec.{leb}
use lib.ListN.{length}
use native.Mathlib.Omega.{arith}
use Rattle.refusals.specs.declared.Refusal.TheVariants.{StepsOut}
use Rattle.meaning.specs.Tree.{Tree, atom, pair, proper_list}
use Rattle.meaning.specs.Number.{number, lookup}
use Rattle.meaning.specs.Limits.{unit_limit, step_limit}
use Rattle.meaning.specs.Meter.{Steps, E, done, stop, ◌>>◌, charge_e, one_step}
use Rattle.meaning.specs.Operator.{Op, Head, quoted, op, other, head_of, takes, Made, makes, runs, cannot, perform}
use Rattle.meaning.specs.Evaluate.{RunnerB, found_b, each_value_b, finish_b, call_b, operate_b, step_b, eval_b, evaluate}
use Rattle.meaning.proofs.Tests.{on_bool, leb_no}
use Rattle.meaning.proofs.MeterLaws.{seq_stop}
use Rattle.meaning.proofs.Agree.{Leaves, Agree, agree_give, agree_refuse, agree_if, agree_less, agree_bind, agree_seq, agree_self}

abbrev steps_of : Steps → ℕ
steps_of s = s.steps

-- two pieces of an evaluation that do the same from k steps on, and do not lose steps
abbrev Alike : {A : Type 0} → ℕ → E A → E A → Type 0
Alike k m n = Agree steps_of k k m n

alike_charge : (k c : ℕ) → Alike k (charge_e c) (charge_e c)
unfolding charge_e Leaves
alike_charge k c = agree_self steps_of k (charge_e c) λ s.
    on_bool (leb (s.units + c) unit_limit) (λ e. rw (e, charge_e) (omega arith)) (λ e. rw (e, charge_e) tt)

-- a step is one more
one_step_more : (k : ℕ) → Agree steps_of k (suc k) one_step one_step
unfolding one_step Leaves
one_step_more k = record {
  same = λ s l. refl;
  leaves = λ s l. on_bool (leb (s.steps + 1) step_limit) (λ e. rw (e, one_step) (omega arith)) (λ e. rw (e, one_step) tt);
}

alike_found : (k : ℕ) (o : Option Tree) → Alike k (found_b o) (found_b o)
unfolding found_b
alike_found k none = agree_refuse steps_of k k _
alike_found k (some t) = agree_give steps_of k t

-- ---- through one expression, from two runners that are alike

module _ (k : ℕ) (run run' : RunnerB) (alike : (e env : Tree) → Alike k (run e env) (run' e env)) where
  alike_each : (es : List Tree) (env : Tree) → Alike k (each_value_b run es env) (each_value_b run' es env)
  unfolding each_value_b
  alike_each [] env = agree_give steps_of k []
  alike_each (e ∷ es) env = agree_bind steps_of (alike e env) λ v. agree_bind steps_of (alike_each es env) λ vs. agree_give steps_of k (v ∷ vs)

  alike_finish : (made : Made) → Alike k (finish_b run made) (finish_b run' made)
  unfolding finish_b
  alike_finish (makes t c) = agree_seq steps_of (alike_charge k c) (agree_give steps_of k t)
  alike_finish (runs p e) = alike p e
  alike_finish cannot = agree_refuse steps_of k k _

  alike_call : (o : Op) (es : Option (List Tree)) (env : Tree) → Alike k (call_b run o es env) (call_b run' o es env)
  unfolding call_b
  alike_call o none env = agree_refuse steps_of k k _
  alike_call o (some es) env =
      agree_if steps_of (takes o (length es)) (agree_bind steps_of (alike_each es env) (λ vs. alike_finish (perform o vs))) (agree_refuse steps_of k k _)

  alike_operate : (h : Head) (r env : Tree) → Alike k (operate_b run h r env) (operate_b run' h r env)
  unfolding operate_b
  alike_operate quoted r env = agree_give steps_of k r
  alike_operate (op o) r env = alike_call o (proper_list r) env
  alike_operate other r env = agree_refuse steps_of k k _

  alike_step : (e env : Tree) → Alike k (step_b run e env) (step_b run' e env)
  unfolding step_b
  alike_step (atom b) env = alike_found k (lookup (number b) env)
  alike_step (pair (atom o) r) env = alike_operate (head_of o) r env
  alike_step (pair (pair a b) r) env = agree_refuse steps_of k k _

-- ---- through the depth

no_step : (s : Steps) → step_limit < s.steps → one_step s ≡ stop StepsOut s
unfolding one_step
no_step s l = rw (leb_no (s.steps + 1) step_limit (omega arith), one_step)

-- where the steps are spent, any depth refuses
spent : (n : ℕ) (e env : Tree) (s : Steps) → step_limit < s.steps → eval_b n e env s ≡ stop StepsOut s
unfolding eval_b
spent zero e env s l = refl
spent (suc n) e env s l = seq_stop one_step (step_b (eval_b n) e env) s s StepsOut (no_step s l)

alike_spent : (n m k : ℕ) → step_limit < k → (e env : Tree) → Alike k (eval_b n e env) (eval_b m e env)
unfolding Leaves
alike_spent n m k l e env = record {
  same = λ s h. spent n e env s (omega arith) ∙ sym (spent m e env s (omega arith));
  leaves = λ s h. rw (spent n e env s (omega arith)) tt;
}

one_deeper : (n m k : ℕ) → ((e env : Tree) → Alike (suc k) (eval_b n e env) (eval_b m e env)) → (e env : Tree) → Agree steps_of k (suc k) (eval_b (suc n) e env) (eval_b (suc m) e env)
unfolding eval_b
one_deeper n m k alike e env = agree_seq steps_of (one_step_more k) (alike_step (suc k) (eval_b n) (eval_b m) alike e env)

alike_depth : (n m k : ℕ) → step_limit < n + k → step_limit < m + k → (e env : Tree) → Alike k (eval_b n e env) (eval_b m e env)
alike_depth zero m k l h e env = alike_spent zero m k (omega arith) e env
alike_depth (suc n) zero k l h e env = alike_spent (suc n) zero k (omega arith) e env
alike_depth (suc n) (suc m) k l h e env = agree_less steps_of k (omega arith) (one_deeper n m k (alike_depth n m (suc k) (omega arith) (omega arith)) e env)

-- two depths that are both enough do the same
pub enough_depth : (n m : ℕ) (e env : Tree) (s : Steps) → suc step_limit ≤ n + s.steps → suc step_limit ≤ m + s.steps → eval_b n e env s ≡ eval_b m e env s
enough_depth n m e env s l h = (alike_depth n m s.steps l h e env).same s (omega arith)

-- a depth that is enough is an evaluation
pub enough_to_evaluate : (n : ℕ) (e env : Tree) (s : Steps) → suc step_limit ≤ n + s.steps → eval_b n e env s ≡ evaluate e env s
unfolding evaluate
enough_to_evaluate n e env s l = enough_depth n (suc step_limit) e env s l (omega arith)

-- so an evaluation is a step, and then evaluations
pub next_step : (e env : Tree) (s : Steps) → evaluate e env s ≡ (one_step >> step_b (λ e' env'. evaluate e' env') e env) s
unfolding evaluate eval_b
next_step e env s =
    (agree_seq steps_of (one_step_more 0)
    (alike_step 1 (eval_b step_limit) (eval_b (suc step_limit)) (λ e' env'. alike_depth step_limit (suc step_limit) 1 (omega arith) (omega arith) e' env') e env)
    ).same s (omega arith)

-- ---- each expression takes a step, and no step is given back

rises : (n k : ℕ) (e env : Tree) → Agree steps_of k (suc k) (eval_b n e env) (eval_b n e env)
unfolding eval_b
rises zero k e env = agree_refuse steps_of k (suc k) _
rises (suc n) k e env = one_deeper n n k (λ e' env'. agree_less steps_of (suc k) (omega arith) (rises n (suc k) e' env')) e env

pub steps_rise : (n : ℕ) (e env v : Tree) (s t : Steps) → eval_b n e env s ≡ done v t → s.steps < t.steps
unfolding Leaves
steps_rise n e env v s t h = rw h at ((rises n s.steps e env).leaves s (omega arith))
