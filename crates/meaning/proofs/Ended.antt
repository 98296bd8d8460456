-- A finished tree is finished: the driver ends with an atom, or with a pass that changes nothing. Assumes nothing.
use Prim.Native.Nat.{ℕ, zero, suc}
use mathlib.Core.Path.{◌≡◌, refl, subst}
use mathlib.Core.List.{List}
use native.Mathlib.Omega.{arith}
use Rattle.meaning.specs.Tree.{Tree, atom, pair}
use Rattle.meaning.specs.Limits.{pass_limit}
use Rattle.meaning.specs.Meter.{Spent, done, one_pass}
use Rattle.meaning.specs.Driver.{loop, optimize_sexp}
use Rattle.meaning.proofs.MeterLaws.{not_stop, give_inv}
use Rattle.meaning.proofs.Cost.{steady_fits}
use Rattle.meaning.proofs.CostRun.{of_run, Fits, steady_pass}
use Rattle.meaning.proofs.CostDriver.{steady_turn}
use Rattle.meaning.proofs.Memo.{Entry, stored}
use Rattle.meaning.proofs.Turn.{turn, Turned, rested, went_on, turned, rests}

-- how a call ends, with d calls left to nest below it: with an atom, or with a pass that changed nothing
pub data Ended (d : ℕ) : Tree → Type 0 where
  at_atom : (b : List ℕ) → Ended d (atom b)
  at_rest : (l r : Tree) (s s₁ x : Spent) → Fits s → one_pass s ≡ done tt s₁ → turn (optimize_sexp d) (pair l r) s₁ ≡ done (pair l r) x → Ended d (pair l r)

-- within the limits before a turn, within them at its pass and after it
pub turn_fits : (d : ℕ) (t w : Tree) (s s₁ s₂ : Spent) → Fits s → one_pass s ≡ done tt s₁ → turn (optimize_sexp d) t s₁ ≡ done w s₂ → Fits s₁ × Fits s₂
turn_fits d t w s s₁ s₂ f p q =
    let f₁ : Fits s₁ = steady_fits of_run steady_pass s s₁ tt f p in
    (f₁, steady_fits of_run (steady_turn d 1 t) s₁ s₂ w f₁ q)

-- what the loop gives is finished
pub loop_ended : (d n : ℕ) (t u : Tree) (s x : Spent) → Fits s → loop (optimize_sexp d) n t s ≡ done u x → Ended d u
unfolding loop
loop_ended d zero t u s x f h = not_stop h
loop_ended d (suc n) (atom b) u s x f h = subst (Ended d) (give_inv (atom b) u s x h) (at_atom b)
loop_ended d (suc n) (pair l r) u s x f h = go (turned (optimize_sexp d) n l r u s x h) (λ w s' f' k. loop_ended d n w u s' x f' k)
  where
    go : Turned (optimize_sexp d) n l r u s x → ((w : Tree) (s' : Spent) → Fits s' → loop (optimize_sexp d) n w s' ≡ done u x → Ended d u) → Ended d u
    go (rested s₁ p q i) on = subst (Ended d) i (at_rest l r s s₁ x f p q)
    go (went_on w s₁ s₂ p q e k) on = on w s₂ (turn_fits d (pair l r) w s s₁ s₂ f p q).1 k

-- what a call gives is finished
pub driver_ended : (d : ℕ) (t u : Tree) (s x : Spent) → Fits s → optimize_sexp (suc d) t s ≡ done u x → Ended d u
unfolding optimize_sexp
driver_ended d t u s x f h = loop_ended d (suc pass_limit) t u s x f h

-- a finished tree is an entry of its own: worked again, where there is room, it is given back
pub ended_entry : (d : ℕ) (u : Tree) → Ended d u → (c : Spent) × Entry u u c (suc d)
unfolding optimize_sexp
ended_entry d u (at_atom b) = let (c, e, k) = stored (suc d) (atom b) (atom b) of_run.nothing of_run.nothing (omega arith, omega arith) refl in (c, k)
ended_entry d u (at_rest l r s s₁ x f p q) = let (c, e, k) = stored (suc d) (pair l r) (pair l r) s x f (rests (optimize_sexp d) pass_limit l r s s₁ x p q) in (c, k)
