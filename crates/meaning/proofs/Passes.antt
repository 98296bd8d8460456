-- The passes never fall in a run, through the rules and the driver. Assumes nothing.
use Prim.Native.Nat.{ℕ, zero, suc, ◌+◌, ◌≤◌}
use mathlib.Core.Path.{◌≡◌, refl}
use mathlib.Core.Bool.{Bool}
use lib.Dec.{leb}
use native.Mathlib.Omega.{arith}
use Rattle.meaning.specs.Tree.{Tree}
use Rattle.meaning.specs.Limits.{unit_limit, pass_limit}
use Rattle.meaning.specs.Meter.{Out, Spent, Steps, E, W, done, stop, charge, one_pass, mark_if, within}
use Rattle.meaning.specs.Evaluate.{evaluate}
use Rattle.meaning.specs.Driver.{optimizers, pass, loop, optimize_sexp}
use Rattle.meaning.proofs.Tests.{on_bool}
use Rattle.meaning.proofs.MeterLaws.{not_stop}
use Rattle.meaning.proofs.Walk.{Kept, walk_pass, walk_loop}
use Rattle.meaning.proofs.Agree.{Leaves, Agree, agree_give, agree_refuse, agree_less, agree_bind, agree_self}

abbrev pub passes_of : Spent → ℕ
passes_of s = s.passes

-- two pieces of a run that do the same from k passes on, and do not lose passes
abbrev pub Alike : {A : Type 0} → ℕ → W A → W A → Type 0
Alike k m n = Agree passes_of k k m n

pub alike_charge : (k c : ℕ) → Alike k (charge c) (charge c)
unfolding charge Leaves
alike_charge k c = agree_self passes_of k (charge c) λ s.
    on_bool (leb (s.units + c) unit_limit) (λ e. rw (e, charge) (omega arith)) (λ e. rw (e, charge) tt)

pub alike_mark : (k : ℕ) (b : Bool) → Alike k (mark_if b) (mark_if b)
unfolding mark_if Leaves
alike_mark k b = agree_self passes_of k (mark_if b) λ s. omega arith

pub alike_within : {A : Type 0} (k : ℕ) (m : E A) → Alike k (within m) (within m)
unfolding within Leaves
alike_within {A} k m = agree_self passes_of k (within m) λ s. go s (m (record { steps = 0; units = s.units }))
  where
    go : (s : Spent) (o : Out Steps A) → Leaves passes_of {A = A} s.passes (elim o [
      | done a e ↦ done a (record { units = e.units; passes = s.passes; mark = s.mark })
      | stop n e ↦ stop n (record { units = e.units; passes = s.passes; mark = s.mark })
    ])
    go s (done a e) = omega arith
    go s (stop n e) = tt

-- a pass is one more
pub one_pass_more : (k : ℕ) → Agree passes_of k (suc k) one_pass one_pass
unfolding one_pass Leaves
one_pass_more k = record {
  same = λ s l. refl;
  leaves = λ s l. on_bool (leb (s.passes + 1) pass_limit) (λ e. rw (e, one_pass) (omega arith)) (λ e. rw (e, one_pass) tt);
}

-- to be alike is kept by the ways of putting work together
abbrev pub to_be_alike : ℕ → Kept
to_be_alike k = record {
  rel = λ m n. Alike k m n;
  by_give = λ a. agree_give passes_of k a;
  by_refuse = λ n h. agree_refuse passes_of k k n;
  by_bind = λ mn fg. agree_bind passes_of mn fg;
  by_charge = alike_charge k;
  by_pass = agree_less passes_of k (omega arith) (one_pass_more k);
  by_mark = alike_mark k;
  by_evaluate = λ e env. alike_within k (evaluate e env);
}

-- work in which the passes never fall
abbrev pub NeverFalls : (Tree → W Tree) → Type 0
NeverFalls again = (t u : Tree) (s x : Spent) → again t s ≡ done u x → s.passes ≤ x.passes

never_alike : (again : Tree → W Tree) → NeverFalls again → (k : ℕ) (t : Tree) → Alike k (again t) (again t)
unfolding Leaves
never_alike again up k t = agree_self passes_of k (again t) λ s. go s (again t s) (λ u x. up t u s x)
  where
    go : (s : Spent) (o : Out Spent Tree) → ((u : Tree) (x : Spent) → o ≡ done u x → s.passes ≤ x.passes) → Leaves passes_of s.passes o
    go s (done u x) h = h u x refl
    go s (stop n x) h = tt

never_falls : {A : Type 0} (m : W A) → ((k : ℕ) → Alike k m m) → (a : A) (s x : Spent) → m s ≡ done a x → s.passes ≤ x.passes
unfolding Leaves
never_falls m alike a s x h = rw h at ((alike s.passes).leaves s (omega arith))

-- where they never fall in the driver's inner calls, they never fall in a pass, nor in the loop
pub alike_pass : (again : Tree → W Tree) → NeverFalls again → (k n : ℕ) (t : Tree) → Alike k (pass n (optimizers again) t) (pass n (optimizers again) t)
alike_pass again up k n t = walk_pass (to_be_alike k) again again (never_alike again up k) n t

pub loop_never_falls : (again : Tree → W Tree) → NeverFalls again → (n : ℕ) → NeverFalls (loop again n)
loop_never_falls again up n t u s x h = never_falls (loop again n t) (λ k. walk_loop (to_be_alike k) again again (never_alike again up k) n t) u s x h

pub driver_never_falls : (d : ℕ) → NeverFalls (optimize_sexp d)
unfolding optimize_sexp
driver_never_falls zero t u s x h = not_stop h
driver_never_falls (suc d) t u s x h = loop_never_falls (optimize_sexp d) (driver_never_falls d) (suc pass_limit) t u s x h
