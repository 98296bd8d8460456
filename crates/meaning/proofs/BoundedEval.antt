-- Where the bounded evaluator gives a value, the unbounded one gives the same. Assumes nothing.
use Prim.Native.Nat.{ℕ, zero, suc}
use mathlib.Core.Path.{◌≡◌, refl}
use mathlib.Core.List.{List, [], ◌∷◌}
use mathlib.Core.Option.{Option, none, some}
use lib.ListN.{length}
use Rattle.meaning.specs.Tree.{Tree, atom, pair, proper_list}
use Rattle.meaning.specs.Number.{number, lookup}
use Rattle.meaning.specs.Limits.{step_limit}
use Rattle.meaning.specs.Meter.{E, Steps, done, charge_e, one_step}
use Rattle.meaning.specs.Operator.{Op, Head, quoted, op, other, head_of, takes, Made, makes, runs, cannot, perform}
use Rattle.meaning.specs.Evaluate.{Gives, RunnerB, found_b, each_value_b, finish_b, call_b, operate_b, step_b, eval_b, evaluate}
use Rattle.meaning.proofs.Pointwise.{no_more, one_more}
use Rattle.meaning.proofs.GivesLaws.{GivesAll, Finishes, Called, called, Headed, Valued, gives_intro}
use Rattle.meaning.proofs.Sure.{Sure, sure_give, sure_refuse, sure_bind, sure_seq, sure_if, sure_map}

-- of an evaluation that was done: what it gives is P
abbrev SureE : {A : Type 0} → E A → (A → Type 0) → Type 0
SureE = Sure (λ s. Unit {0})

any : {A : Type 0} (m : E A) → SureE m (λ a. Unit {0})
any m = record { at = λ s t a h k. (tt, tt) }

module _ (run : RunnerB) (sure : (e env : Tree) → SureE (run e env) (λ v. Gives e env v)) where
  each_sure : (es : List Tree) (env : Tree) → SureE (each_value_b run es env) (λ vs. GivesAll env es vs)
  unfolding each_value_b
  each_sure [] env = sure_give _ no_more
  each_sure (e ∷ es) env = sure_bind (sure e env) (λ v. sure_bind (each_sure es env) (λ vs. sure_give _ (λ gs g. one_more g gs)))

  finish_sure : (m : Made) → SureE (finish_b run m) (λ v. Finishes m v)
  unfolding finish_b Finishes
  finish_sure (makes t c) = sure_seq (any (charge_e c)) (sure_give _ (λ u. refl))
  finish_sure (runs p e) = sure p e
  finish_sure cannot = sure_refuse _

  call_sure : (o : Op) (r env : Tree) → SureE (call_b run o (proper_list r) env) (λ v. Called o r env v)
  unfolding call_b
  call_sure o r env = go (proper_list r) refl
    where
      go : (x : Option (List Tree)) → proper_list r ≡ x → SureE (call_b run o x env) (λ v. Called o r env v)
      go none q = sure_refuse _
      go (some es) q =
          sure_if (takes o (length es))
          (λ t. sure_bind (each_sure es env) (λ vs.
          sure_map (λ v f gs. called o r env v es vs q t gs f) (finish_sure (perform o vs))))
          (λ t. sure_refuse _)

  step_sure : (e env : Tree) → SureE (step_b run e env) (λ v. Valued e env v)
  unfolding step_b Valued
  step_sure (atom b) env = go (lookup (number b) env)
    where
      go : (x : Option Tree) → SureE (found_b x) (λ v. x ≡ some v)
      go none = sure_refuse _
      go (some t) = sure_give _ refl
  step_sure (pair (atom o) r) env = go (head_of o)
    where
      go : (x : Head) → SureE (operate_b run x r env) (λ v. Headed x r env v)
      go quoted = sure_give _ refl
      go (op o) = call_sure o r env
      go other = sure_refuse _
  step_sure (pair (pair a b) r) env = sure_refuse _

eval_sure : (n : ℕ) (e env : Tree) → SureE (eval_b n e env) (λ v. Gives e env v)
unfolding eval_b
eval_sure zero e env = sure_refuse _
eval_sure (suc n) e env =
    sure_seq (any one_step) (sure_map (λ v g u. gives_intro e env v g) (step_sure (λ e' env'. eval_b n e' env') (eval_sure n) e env))

-- 01: "Where the bounded one gives a value, the unbounded gives the same"
pub evaluated : (e env v : Tree) (s t : Steps) → evaluate e env s ≡ done v t → Gives e env v
unfolding evaluate
evaluated e env v s t h = ((eval_sure (suc step_limit) e env).at s t v h tt).1
