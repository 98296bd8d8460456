-- optimize.rs, `optimize_sexp_` without its memo.
use Rattle.std.specs.Prelude.{ℕ, zero, suc, List, [], ◌∷◌, true, false}
use Rattle.refusals.specs.declared.Refusal.TheVariants.{PassesOut, TooDeep}
use Rattle.meaning.specs.Tree.{Tree, atom, pair, equal_to}
use Rattle.meaning.specs.Limits.{pass_limit}
use Rattle.meaning.specs.Meter.{M, W, Over, alone, logged, Spent, Log, log_from, ◌>>=◌, ◌>>◌, give, refuse, one_pass}
use Rattle.meaning.specs.Rules.{cons_optimizer, constant_optimizer, cons_q_a_optimizer, var_change_optimizer_cons_eval_over, var_change_optimizer_cons_eval, children_optimizer_over, children_optimizer, path_optimizer, quote_null_optimizer, apply_null_optimizer}

-- `optimizers`: "Each pass tries, in order"
unfoldable pub optimizers_over : (K : Over) → (Tree → M K.S Tree) → List (Tree → M K.S Tree)
unfolding cons_optimizer constant_optimizer cons_q_a_optimizer var_change_optimizer_cons_eval_over children_optimizer_over path_optimizer quote_null_optimizer apply_null_optimizer give
optimizers_over K again =
    (λ r. give (cons_optimizer r))
    ∷ (λ r. K.in_run (constant_optimizer r))
    ∷ (λ r. give (cons_q_a_optimizer r))
    ∷ var_change_optimizer_cons_eval_over K again
    ∷ children_optimizer_over K again
    ∷ (λ r. K.in_run (path_optimizer r))
    ∷ (λ r. give (quote_null_optimizer r))
    ∷ (λ r. give (apply_null_optimizer r))
    ∷ []

unfoldable pub optimizers : (Tree → W Tree) → List (Tree → W Tree)
unfolding optimizers_over var_change_optimizer_cons_eval children_optimizer
optimizers = optimizers_over alone

-- rule number n ends a pass with t: the one place where that happens
unfoldable pub ends_pass_over : (K : Over) → ℕ → Tree → M K.S Tree
unfolding give ◌>>◌
ends_pass_over K n t = K.note n t >> give t

unfoldable pub ends_pass : ℕ → Tree → W Tree
unfolding ends_pass_over
ends_pass = ends_pass_over alone

-- "The first whose result differs in structure ends the pass." The rules are numbered from n
unfoldable pub pass_over : (K : Over) → ℕ → List (Tree → M K.S Tree) → Tree → M K.S Tree
unfolding equal_to ends_pass_over give ◌>>=◌
pass_over K n [] r = give r
pass_over K n (f ∷ fs) r = f r >>= λ t. elim (equal_to r t) [ true ↦ pass_over K (suc n) fs r | false ↦ ends_pass_over K n t ]

unfoldable pub pass : ℕ → List (Tree → W Tree) → Tree → W Tree
unfolding pass_over ends_pass
pass = pass_over alone

-- "No difference, or an atom, ends the run." Passes are charged "at the start of each turn of the driver's loop on a pair, none for an atom".
-- (The count is over what a run may spend.)
unfoldable pub loop_over : (K : Over) → (Tree → M K.S Tree) → ℕ → Tree → M K.S Tree
unfolding optimizers_over pass_over one_pass equal_to give refuse ◌>>=◌ ◌>>◌
loop_over K again zero t = refuse PassesOut
loop_over K again (suc n) (atom b) = give (atom b)
loop_over K again (suc n) (pair l r) = do
  K.in_run one_pass
  t ← pass_over K 1 (optimizers_over K again) (pair l r)
  elim (equal_to (pair l r) t) [ true ↦ give (pair l r) | false ↦ loop_over K again n t ]

unfoldable pub loop : (Tree → W Tree) → ℕ → Tree → W Tree
unfolding loop_over optimizers pass
loop = loop_over alone

-- `optimize_sexp_` with d calls left to nest, itself among them: "a driver call at nesting 65" is refusal 13, "a call on an atom included"
unfoldable pub optimize_sexp_over : (K : Over) → ℕ → Tree → M K.S Tree
unfolding loop_over refuse
optimize_sexp_over K zero t = refuse TooDeep
optimize_sexp_over K (suc d) t = loop_over K (λ u. optimize_sexp_over K d u) (suc pass_limit) t

unfoldable pub optimize_sexp : ℕ → Tree → W Tree
unfolding optimize_sexp_over loop
optimize_sexp = optimize_sexp_over alone

-- the log of a call of the driver without a memo, from where this is spent: what ended passes within it, thrown-away work included, up to its end or its refusal
unfoldable pub ends : ℕ → Tree → Spent → Log
unfolding optimize_sexp_over log_from
ends d t s = log_from (optimize_sexp_over logged d t) s
