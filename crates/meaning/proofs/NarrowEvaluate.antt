-- The value of a narrow expression in a narrow environment is narrow. Assumes nothing.
use Prim.Native.Nat.{ℕ, zero, suc}
use mathlib.Core.List.{List, [], ◌∷◌}
use mathlib.Core.Bool.{Bool, true, false}
use mathlib.Core.Option.{Option, none, some}
use lib.ListN.{length}
use Rattle.meaning.specs.Tree.{Tree, atom, pair, proper_list, same_bytes}
use Rattle.meaning.specs.Number.{number, turns, follow, lookup}
use Rattle.meaning.specs.Limits.{step_limit}
use Rattle.meaning.specs.Meter.{charge_e, one_step}
use Rattle.meaning.specs.Operator.{Op, apply, choose, cons, first, rest, listp, raise, same, Head, quoted, op, other, head_of, takes, Made, makes, runs, cannot, one, two, three, yes_no, chosen, left_of, right_of, is_pair, same_atom, perform}
use Rattle.meaning.specs.Evaluate.{RunnerB, found_b, each_value_b, finish_b, call_b, operate_b, step_b, eval_b, evaluate}
use Rattle.meaning.specs.Form.{Narrow}
use Rattle.meaning.proofs.Atoms.{narrow_nil, narrow_byte}
use Rattle.meaning.proofs.Yields.{Every, IfSome, Yields, y_bind, y_seq, y_give, y_refuse, y_if}

abbrev pub AllNarrow : List Tree → Type 0
AllNarrow ts = Every Narrow ts

-- ---- parts

follow_narrow : (ds : List Bool) (t : Tree) → Narrow t → IfSome Narrow (follow ds t)
unfolding follow Narrow IfSome
follow_narrow [] t h = h
follow_narrow (d ∷ ds) (atom b) h = tt
follow_narrow (false ∷ ds) (pair l r) h = follow_narrow ds l h.0
follow_narrow (true ∷ ds) (pair l r) h = follow_narrow ds r h.1

lookup_narrow : (n : ℕ) (t : Tree) → Narrow t → IfSome Narrow (lookup n t)
unfolding lookup IfSome
lookup_narrow zero t h = narrow_nil
lookup_narrow (suc n) t h = follow_narrow (turns (suc n)) t h

pub elements_narrow : (t : Tree) → Narrow t → IfSome AllNarrow (proper_list t)
unfolding proper_list Narrow IfSome Every
elements_narrow (atom []) h = tt
elements_narrow (atom (b ∷ bs)) h = tt
elements_narrow (pair t r) h = go (proper_list r) (elements_narrow r h.1)
  where
    go : (o : Option (List Tree)) → IfSome AllNarrow o → IfSome AllNarrow (elim o [ none ↦ none | some ts ↦ some (t ∷ ts) ])
    go none k = tt
    go (some ts) k = (h.0, k)

-- ---- operators

-- what is made is narrow, or narrow things are to be run
MadeNarrow : Made → Type 0
MadeNarrow (makes t c) = Narrow t
MadeNarrow (runs p e) = Narrow p × Narrow e
MadeNarrow cannot = Unit {0}

one_narrow : (vs : List Tree) (f : Tree → Made) → AllNarrow vs → ((a : Tree) → Narrow a → MadeNarrow (f a)) → MadeNarrow (one vs f)
unfolding one Every MadeNarrow
one_narrow [] f h k = tt
one_narrow (a ∷ []) f h k = k a h.0
one_narrow (a ∷ b ∷ ts) f h k = tt

two_narrow : (vs : List Tree) (f : Tree → Tree → Made) → AllNarrow vs → ((a b : Tree) → Narrow a → Narrow b → MadeNarrow (f a b)) → MadeNarrow (two vs f)
unfolding two Every MadeNarrow
two_narrow [] f h k = tt
two_narrow (a ∷ []) f h k = tt
two_narrow (a ∷ b ∷ []) f h k = k a b h.0 h.1.0
two_narrow (a ∷ b ∷ c ∷ ts) f h k = tt

three_narrow : (vs : List Tree) (f : Tree → Tree → Tree → Made) → AllNarrow vs → ((a b c : Tree) → Narrow b → Narrow c → MadeNarrow (f a b c)) → MadeNarrow (three vs f)
unfolding three Every MadeNarrow
three_narrow [] f h k = tt
three_narrow (a ∷ []) f h k = tt
three_narrow (a ∷ b ∷ []) f h k = tt
three_narrow (a ∷ b ∷ c ∷ []) f h k = k a b c h.1.0 h.1.1.0
three_narrow (a ∷ b ∷ c ∷ d ∷ ts) f h k = tt

yes_no_narrow : (b : Bool) → MadeNarrow (yes_no b)
unfolding yes_no MadeNarrow
yes_no_narrow true = narrow_byte 1
yes_no_narrow false = narrow_nil

chosen_narrow : (c a b : Tree) → Narrow a → Narrow b → Narrow (chosen c a b)
unfolding chosen
chosen_narrow (atom []) a b h k = k
chosen_narrow (atom (x ∷ xs)) a b h k = h
chosen_narrow (pair l r) a b h k = h

left_narrow : (t : Tree) → Narrow t → MadeNarrow (left_of t)
unfolding left_of MadeNarrow Narrow
left_narrow (atom b) h = tt
left_narrow (pair l r) h = h.0

right_narrow : (t : Tree) → Narrow t → MadeNarrow (right_of t)
unfolding right_of MadeNarrow Narrow
right_narrow (atom b) h = tt
right_narrow (pair l r) h = h.1

same_narrow : (t u : Tree) → MadeNarrow (same_atom t u)
unfolding same_atom MadeNarrow
same_narrow (atom a) (atom b) = yes_no_narrow (same_bytes a b)
same_narrow (atom a) (pair l r) = tt
same_narrow (pair l r) u = tt

perform_narrow : (o : Op) (vs : List Tree) → AllNarrow vs → MadeNarrow (perform o vs)
unfolding perform MadeNarrow Narrow
perform_narrow apply vs h = two_narrow vs runs h (λ p e hp he. (hp, he))
perform_narrow choose vs h = three_narrow vs _ h chosen_narrow
perform_narrow cons vs h = two_narrow vs _ h (λ l r hl hr. (hl, hr))
perform_narrow first vs h = one_narrow vs _ h left_narrow
perform_narrow rest vs h = one_narrow vs _ h right_narrow
perform_narrow listp vs h = one_narrow vs _ h (λ t _. yes_no_narrow (is_pair t))
perform_narrow raise vs h = tt
perform_narrow same vs h = two_narrow vs _ h (λ t u _ _. same_narrow t u)

-- ---- the evaluator

found_narrow : (o : Option Tree) → IfSome Narrow o → Yields Narrow (found_b o)
unfolding found_b IfSome
found_narrow none h = y_refuse _
found_narrow (some t) h = y_give _ h

-- a runner that keeps narrow
abbrev RunsNarrow : RunnerB → Type 0
RunsNarrow run = (e env : Tree) → Narrow e → Narrow env → Yields Narrow (run e env)

module _ (run : RunnerB) (runs-narrow : RunsNarrow run) where
  each_narrow : (es : List Tree) (env : Tree) → AllNarrow es → Narrow env → Yields AllNarrow (each_value_b run es env)
  unfolding each_value_b Every
  each_narrow [] env h k = y_give _ tt
  each_narrow (e ∷ es) env h k = y_bind (runs-narrow e env h.0 k) (λ v hv. y_bind (each_narrow es env h.1 k) (λ vs hvs. y_give _ (hv, hvs)))

  finish_narrow : (m : Made) → MadeNarrow m → Yields Narrow (finish_b run m)
  unfolding finish_b MadeNarrow
  finish_narrow (makes t c) h = y_seq (charge_e c) (y_give t h)
  finish_narrow (runs p e) h = runs-narrow p e h.0 h.1
  finish_narrow cannot h = y_refuse _

  call_narrow : (o : Op) (es : Option (List Tree)) (env : Tree) → IfSome AllNarrow es → Narrow env → Yields Narrow (call_b run o es env)
  unfolding call_b IfSome
  call_narrow o none env h k = y_refuse _
  call_narrow o (some es) env h k =
      y_if (takes o (length es)) (λ _. y_bind (each_narrow es env h k) (λ vs hvs. finish_narrow (perform o vs) (perform_narrow o vs hvs))) (λ _. y_refuse _)

  operate_narrow : (x : Head) (r env : Tree) → Narrow r → Narrow env → Yields Narrow (operate_b run x r env)
  unfolding operate_b
  operate_narrow quoted r env h k = y_give _ h
  operate_narrow (op o) r env h k = call_narrow o (proper_list r) env (elements_narrow r h) k
  operate_narrow other r env h k = y_refuse _

  step_narrow : (e env : Tree) → Narrow e → Narrow env → Yields Narrow (step_b run e env)
  unfolding step_b Narrow
  step_narrow (atom b) env h k = found_narrow (lookup (number b) env) (lookup_narrow (number b) env k)
  step_narrow (pair (atom o) r) env h k = operate_narrow (head_of o) r env h.1 k
  step_narrow (pair (pair a b) r) env h k = y_refuse _

eval_narrow : (n : ℕ) → RunsNarrow (eval_b n)
unfolding eval_b
eval_narrow zero e env h k = y_refuse _
eval_narrow (suc n) e env h k = y_seq one_step (step_narrow (eval_b n) (eval_narrow n) e env h k)

-- the evaluator keeps narrow
pub evaluate_narrow : (e env : Tree) → Narrow e → Narrow env → Yields Narrow (evaluate e env)
unfolding evaluate
evaluate_narrow e env h k = eval_narrow (suc step_limit) e env h k
