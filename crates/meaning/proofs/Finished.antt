-- Demand 3: the finished tree has the values of the source, where the run set no mark. Assumes nothing.
use Prim.Native.Nat.{ℕ, zero, suc}
use mathlib.Core.Path.{◌≡◌}
use mathlib.Core.List.{List, [], ◌∷◌}
use mathlib.Core.Bool.{false}
use Rattle.meaning.specs.Tree.{Tree, atom, pair, equal_to}
use Rattle.meaning.specs.Limits.{pass_limit, nesting_limit}
use Rattle.meaning.specs.Meter.{done, W, Spent}
use Rattle.meaning.specs.Form.{Reading, read_form}
use Rattle.meaning.specs.Evaluate.{Gives}
use Rattle.meaning.specs.Driver.{optimizers, pass, loop, optimize_sexp}
use Rattle.meaning.specs.Run.{after_reading, worked}
use Rattle.meaning.proofs.Sure.{sure_give, sure_refuse, sure_bind, sure_seq, sure_if, sure_map}
use Rattle.meaning.proofs.Quiet.{Quiet, quiet_pass}
use Rattle.meaning.proofs.Keeps.{Keeps, keeps_refl, keeps_trans}
use Rattle.meaning.proofs.RewriteKeeps.{cons_keeps, cons_q_a_keeps, quote_null_keeps, apply_null_keeps}
use Rattle.meaning.proofs.Good.{GoodRule, Becomes, becomes_itself, Good, children_good}
use Rattle.meaning.proofs.ConstantKeeps.{constant_good}
use Rattle.meaning.proofs.ChangeKeeps.{change_good}
use Rattle.meaning.proofs.PathKeeps.{path_good}

-- every rule of a list is good
infixr 50 ◌and◌
data AllGood : List (Tree → W Tree) → Type 0 where
  no_more_rules : AllGood []
  ◌and◌ : {f : Tree → W Tree} {fs : List (Tree → W Tree)} → GoodRule f → AllGood fs → AllGood (f ∷ fs)

-- the rules keep values where they set no mark, if the driver one deeper does
optimizers_good : (again : Tree → W Tree) → Good again → AllGood (optimizers again)
unfolding optimizers
optimizers_good again good =
    (λ r. sure_give _ (cons_keeps r))
    and constant_good
    and (λ r. sure_give _ (cons_q_a_keeps r))
    and change_good again good
    and children_good again good
    and path_good
    and (λ r. sure_give _ (quote_null_keeps r))
    and (λ r. sure_give _ (apply_null_keeps r))
    and no_more_rules

-- a pass keeps values where it sets no mark
pass_good : (n : ℕ) (fs : List (Tree → W Tree)) → AllGood fs → (r : Tree) → Quiet (pass n fs r) (λ u. Keeps r u)
unfolding pass
pass_good n fs no_more_rules r = sure_give _ (keeps_refl r)
pass_good n fs (◌and◌ {fs = gs} g good) r =
    sure_bind (g r) (λ t. sure_if (equal_to r t) (λ e. sure_map (λ u k x. k) (pass_good (suc n) gs good r)) (λ e. sure_give _ (λ k. k)))

-- the driver's loop keeps values where it sets no mark, and leaves an atom as it is
loop_good : (again : Tree → W Tree) → Good again → (n : ℕ) (t : Tree) → Quiet (loop again n t) (λ u. Becomes t u)
unfolding loop
loop_good again good zero t = sure_refuse _
loop_good again good (suc n) (atom b) = sure_give _ (becomes_itself (atom b))
loop_good again good (suc n) (pair l r) =
    sure_seq quiet_pass (sure_bind (pass_good 1 (optimizers again) (optimizers_good again good) (pair l r)) (λ t.
    sure_if (equal_to (pair l r) t)
    (λ e. sure_give _ (λ k x. becomes_itself (pair l r)))
    (λ e. sure_map (λ u w k x. record { keeps = keeps_trans (pair l r) t u k w.keeps; still = λ b i. cc }) (loop_good again good n t))))

optimize_good : (d : ℕ) → Good (optimize_sexp d)
unfolding optimize_sexp
optimize_good zero t = sure_refuse _
optimize_good (suc d) t = loop_good (λ u. optimize_sexp d u) (optimize_good d) (suc pass_limit) t

-- the driver never takes the mark away
pub mark_stays : (d : ℕ) (t u : Tree) (s s' : Spent) → optimize_sexp d t s ≡ done u s' → s'.mark ≡ false → s.mark ≡ false
mark_stays d t u s s' h k = ((optimize_good d t).at s s' u h k).0

-- where the driver ends with mark 0 and the source has a value in an environment, the finished tree has the same
pub finished : (d : ℕ) (t u : Tree) (s s' : Spent) → optimize_sexp d t s ≡ done u s' → s'.mark ≡ false → (env v : Tree) → Gives t env v → Gives u env v
unfolding Keeps
finished d t u s s' h k = ((optimize_good d t).at s s' u h k).1.keeps

-- the same of a run, whose form reads as t
pub run_finished : (form : List ℕ) (t u : Tree) (r : Reading) (s : Spent) → read_form form 0 ≡ done t r → worked form ≡ done u s → s.mark ≡ false
    → (env v : Tree) → Gives t env v → Gives u env v
unfolding worked
run_finished form t u r s p h k = finished nesting_limit t u (after_reading r) s (rw (p, worked) at h) k
