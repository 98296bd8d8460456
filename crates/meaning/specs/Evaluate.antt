-- Document 01, "Evaluator": without bounds, and with them.
use Rattle.std.specs.Prelude.{ℕ, zero, suc, ◌≡◌, List, [], ◌∷◌, true, false, length}
use Rattle.std.proofs.Math.Option.{Option, none, some}
use Rattle.refusals.specs.declared.Refusal.TheVariants.{Fails, NoOperator, StepsOut}
use Rattle.meaning.specs.Tree.{Tree, atom, pair, proper_list}
use Rattle.meaning.specs.Number.{number, lookup}
use Rattle.meaning.specs.Limits.{step_limit}
use Rattle.meaning.specs.Meter.{E, ◌>>=◌, ◌>>◌, give, refuse, charge_e, one_step}
use Rattle.meaning.specs.Operator.{Op, Head, quoted, op, other, head_of, takes, Made, makes, runs, cannot, perform}

-- ---- without steps, units or limits on atoms

-- a value, a failure, or not enough depth to say
pub data Result : Type 0 where
  value : Tree → Result
  fails : Result
  short : Result

abbrev pub Runner : Type 0
Runner = Tree → Tree → Result

unfoldable pub found : Option Tree → Result
found none = fails
found (some t) = value t

infixl 50 ◌then◌
unfoldable pub ◌then◌ : Result → (Tree → Result) → Result
value v then f = f v
fails then f = fails
short then f = short

-- "all arguments left to right", and then f of their values
unfoldable pub each_value : Runner → List Tree → Tree → (List Tree → Result) → Result
unfolding ◌then◌
each_value run [] env f = f []
each_value run (e ∷ es) env f = run e env then λ v. each_value run es env (λ vs. f (v ∷ vs))

unfoldable pub finish : Runner → Made → Result
finish run (makes t c) = value t
finish run (runs p e) = run p e
finish run cannot = fails

-- "then that the argument list ends in nil, then the count; then all arguments left to right; then what they are"
unfoldable pub call : Runner → Op → Option (List Tree) → Tree → Result
unfolding each_value finish perform takes
call run o none env = fails
call run o (some es) env = elim (takes o (length es)) [ true ↦ each_value run es env (λ vs. finish run (perform o vs)) | false ↦ fails ]

-- "Operator is checked first"
unfoldable pub operate : Runner → Head → Tree → Tree → Result
unfolding call proper_list
operate run quoted r env = value r
operate run (op o) r env = call run o (proper_list r) env
operate run other r env = fails

unfoldable pub step : Runner → Tree → Tree → Result
unfolding operate found lookup number head_of
step run (atom b) env = found (lookup (number b) env)
step run (pair (atom o) r) env = operate run (head_of o) r env
step run (pair (pair a b) r) env = fails

-- to a depth of n nested expressions
unfoldable pub eval : ℕ → Tree → Tree → Result
unfolding step
eval zero e env = short
eval (suc n) e env = step (λ e' env'. eval n e' env') e env

-- the expression e has the value v in env: "it gives a value where some number of steps is enough"
unfoldable pub Gives : Tree → Tree → Tree → Type 0
unfolding eval
Gives e env v = (n : ℕ) × (eval n e env ≡ value v)

-- ---- with 4,096 steps and the run's units; refusals 7 to 10

abbrev pub RunnerB : Type 0
RunnerB = Tree → Tree → E Tree

unfoldable pub found_b : Option Tree → E Tree
unfolding give refuse
found_b none = refuse Fails
found_b (some t) = give t

unfoldable pub each_value_b : RunnerB → List Tree → Tree → E (List Tree)
unfolding give ◌>>=◌
each_value_b run [] env = give []
each_value_b run (e ∷ es) env = do
  v ← run e env
  vs ← each_value_b run es env
  give (v ∷ vs)

unfoldable pub finish_b : RunnerB → Made → E Tree
unfolding charge_e give refuse ◌>>◌
finish_b run (makes t c) = charge_e c >> give t
finish_b run (runs p e) = run p e
finish_b run cannot = refuse Fails

unfoldable pub call_b : RunnerB → Op → Option (List Tree) → Tree → E Tree
unfolding each_value_b finish_b perform takes refuse ◌>>=◌
call_b run o none env = refuse Fails
call_b run o (some es) env = elim (takes o (length es)) [
  | true ↦ each_value_b run es env >>= λ vs. finish_b run (perform o vs)
  | false ↦ refuse Fails
]

-- refusal 9: "an operator not carried"
unfoldable pub operate_b : RunnerB → Head → Tree → Tree → E Tree
unfolding call_b proper_list give refuse
operate_b run quoted r env = give r
operate_b run (op o) r env = call_b run o (proper_list r) env
operate_b run other r env = refuse NoOperator

-- refusal 9: "or an operator that is a pair"
unfoldable pub step_b : RunnerB → Tree → Tree → E Tree
unfolding operate_b found_b lookup number head_of refuse
step_b run (atom b) env = found_b (lookup (number b) env)
step_b run (pair (atom o) r) env = operate_b run (head_of o) r env
step_b run (pair (pair a b) r) env = refuse NoOperator

-- "one for each expression worked", "10 as an expression begins". (The count is of nested expressions; each takes a step.)
unfoldable pub eval_b : ℕ → Tree → Tree → E Tree
unfolding step_b one_step ◌>>◌ refuse
eval_b zero e env = refuse StepsOut
eval_b (suc n) e env = one_step >> step_b (λ e' env'. eval_b n e' env') e env

unfoldable pub evaluate : Tree → Tree → E Tree
unfolding eval_b
evaluate e env = eval_b (suc step_limit) e env
