-- More depth gives no other result. Assumes nothing.
use Prim.Native.Nat.{ℕ, zero, suc, ◌+◌}
use mathlib.Core.Path.{◌≡◌, refl, sym, subst}
use mathlib.Core.List.{List, [], ◌∷◌}
use mathlib.Core.Bool.{Bool, true, false}
use mathlib.Core.Option.{Option, none, some}
use lib.ListN.{length}
use native.Mathlib.Nat.{suc-add, zero-add}
use Rattle.meaning.specs.Tree.{Tree, atom, pair, proper_list}
use Rattle.meaning.specs.Operator.{Op, Head, quoted, op, other, head_of, takes, Made, makes, runs, cannot, perform}
use Rattle.meaning.specs.Evaluate.{Result, value, fails, short, Runner, ◌then◌, each_value, finish, call, operate, step, eval}

-- the second says what the first says, where the first says anything
unfoldable pub Below : Result → Result → Type 0
Below (value v) s = s ≡ value v
Below fails s = s ≡ fails
Below short s = Unit {0}

abbrev pub BelowR : Runner → Runner → Type 0
BelowR run run' = (e env : Tree) → Below (run e env) (run' e env)

below_refl : (r : Result) → Below r r
unfolding Below
below_refl (value v) = refl
below_refl fails = refl
below_refl short = tt

below_trans : (r s t : Result) → Below r s → Below s t → Below r t
unfolding Below
below_trans (value v) s t h k = rw h at k
below_trans fails s t h k = rw h at k
below_trans short s t h k = tt

then_mono : (m m' : Result) (f f' : Tree → Result) → Below m m' → ((v : Tree) → Below (f v) (f' v)) → Below (m then f) (m' then f')
unfolding Below ◌then◌
then_mono (value v) m' f f' h k = rw h (k v)
then_mono fails m' f f' h k = rw h
then_mono short m' f f' h k = tt

-- a runner that says more makes every step say more
module _ (run run' : Runner) (up : BelowR run run') where
  each_mono : (es : List Tree) (env : Tree) (f f' : List Tree → Result) → ((vs : List Tree) → Below (f vs) (f' vs))
      → Below (each_value run es env f) (each_value run' es env f')
  unfolding each_value
  each_mono [] env f f' k = k []
  each_mono (e ∷ es) env f f' k = then_mono _ _ _ _ (up e env) (λ v. each_mono es env _ _ (λ vs. k (v ∷ vs)))

  finish_mono : (m : Made) → Below (finish run m) (finish run' m)
  unfolding finish
  finish_mono (makes t c) = below_refl _
  finish_mono (runs p e) = up p e
  finish_mono cannot = below_refl _

  call_mono : (o : Op) (es : Option (List Tree)) (env : Tree) → Below (call run o es env) (call run' o es env)
  unfolding call
  call_mono o none env = below_refl _
  call_mono o (some es) env = go (takes o (length es))
    where
      go : (b : Bool) → Below
          (elim b [ true ↦ each_value run es env (λ vs. finish run (perform o vs)) | false ↦ fails ])
          (elim b [ true ↦ each_value run' es env (λ vs. finish run' (perform o vs)) | false ↦ fails ])
      go true = each_mono es env _ _ (λ vs. finish_mono (perform o vs))
      go false = below_refl _

  operate_mono : (h : Head) (r env : Tree) → Below (operate run h r env) (operate run' h r env)
  unfolding operate
  operate_mono quoted r env = below_refl _
  operate_mono (op o) r env = call_mono o (proper_list r) env
  operate_mono other r env = below_refl _

  step_mono : BelowR (step run) (step run')
  unfolding step
  step_mono (atom b) env = below_refl _
  step_mono (pair (atom o) r) env = operate_mono (head_of o) r env
  step_mono (pair (pair a b) r) env = below_refl _

-- one level more says no other thing
eval_more : (n : ℕ) → BelowR (eval n) (eval (suc n))
unfolding eval Below
eval_more zero e env = tt
eval_more (suc n) e env = step_mono (eval n) (eval (suc n)) (eval_more n) e env

-- k levels more say no other thing
pub eval_add : (k n : ℕ) → BelowR (eval n) (eval (k + n))
eval_add zero n e env = rw zero-add (below_refl _)
eval_add (suc k) n e env = rw suc-add (below_trans _ _ _ (eval_add k n e env) (eval_more (k + n) e env))

-- a value stays the value
pub eval_up : (k n : ℕ) (e env v : Tree) → eval n e env ≡ value v → eval (k + n) e env ≡ value v
unfolding Below
eval_up k n e env v p = rw p at (eval_add k n e env)

-- a failure, or too little depth, is no value
IsValue : Result → Type 0
IsValue (value v) = Unit {0}
IsValue fails = ⊥
IsValue short = ⊥

pub not_fails : {X : Type 0} {v : Tree} → fails ≡ value v → X
unfolding IsValue
not_fails h = absurd (subst IsValue (sym h) tt)

pub not_short : {X : Type 0} {v : Tree} → short ≡ value v → X
unfolding IsValue
not_short h = absurd (subst IsValue (sym h) tt)
