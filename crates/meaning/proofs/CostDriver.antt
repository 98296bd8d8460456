-- What the driver spends on a tree is the same wherever there is room. Assumes nothing.
use Prim.Native.Nat.{ℕ, zero, suc}
use mathlib.Core.Path.{◌≡◌}
use Rattle.meaning.specs.Tree.{Tree}
use Rattle.meaning.specs.Limits.{pass_limit}
use Rattle.meaning.specs.Meter.{W, Spent, done}
use Rattle.meaning.specs.Evaluate.{evaluate}
use Rattle.meaning.specs.Driver.{optimizers, pass, loop, optimize_sexp}
use Rattle.meaning.proofs.Cost.{Steady, steady_fits, steady_give, steady_refuse, steady_bind}
use Rattle.meaning.proofs.CostRun.{of_run, Fits, steady_units, steady_pass, steady_mark}
use Rattle.meaning.proofs.CostSteps.{steady_within}
use Rattle.meaning.proofs.CostEvaluate.{steady_evaluate}
use Rattle.meaning.proofs.Walk.{Kept, walk_pass, walk_loop}

-- to be steady is kept by the ways of putting work together
abbrev pub to_be_steady : Kept
to_be_steady = record {
  rel = λ m n. Steady of_run m;
  by_give = λ a. steady_give of_run a;
  by_refuse = λ n h. steady_refuse of_run n;
  by_bind = λ mn fg. steady_bind of_run mn fg;
  by_charge = steady_units;
  by_pass = steady_pass;
  by_mark = steady_mark;
  by_evaluate = λ e env. steady_within (evaluate e env) (steady_evaluate e env);
}

pub steady_loop : (again : Tree → W Tree) → ((t : Tree) → Steady of_run (again t)) → (n : ℕ) (t : Tree) → Steady of_run (loop again n t)
steady_loop again st n t = walk_loop to_be_steady again again st n t

-- a call's units, passes and mark do not depend on what was spent before
pub steady_driver : (d : ℕ) (t : Tree) → Steady of_run (optimize_sexp d t)
unfolding optimize_sexp
steady_driver zero t = steady_refuse of_run _
steady_driver (suc d) t = steady_loop (optimize_sexp d) (steady_driver d) (suc pass_limit) t

-- a call that started within the limits ends within them
pub driver_fits : (d : ℕ) (t u : Tree) (s x : Spent) → Fits s → optimize_sexp d t s ≡ done u x → Fits x
driver_fits d t u s x f h = steady_fits of_run (steady_driver d t) s x u f h

-- a pass of a call with d calls left to nest
pub steady_turn : (d n : ℕ) (t : Tree) → Steady of_run (pass n (optimizers (optimize_sexp d)) t)
steady_turn d n t = walk_pass to_be_steady (optimize_sexp d) (optimize_sexp d) (steady_driver d) n t
