-- The walk over a list, step by step: at its end and at an element. Assumes nothing.
use Prim.Native.Nat.{ℕ}
use mathlib.Core.Path.{◌≡◌, refl}
use mathlib.Core.List.{List}
use mathlib.Core.Bool.{Bool, ◌||◌}
use Rattle.refusals.specs.declared.Refusal.{Refusal}
use Rattle.meaning.specs.Tree.{Tree, atom, pair}
use Rattle.meaning.specs.Meter.{W, Spent, done, stop, ◌>>=◌}
use Rattle.meaning.proofs.MeterLaws.{bind_at}
use Rattle.meaning.proofs.BindLaws.{bind_stop}
use Rattle.meaning.proofs.Operands.{as_wanted, ending, before, work, join}

module _ (test : Tree → Tree → Bool) (wanted : Bool) (again : Tree → W Tree) (flag : Bool) where
  pub work_end : (b : List ℕ) (s : Spent) → work test wanted again flag (atom b) s ≡ done (ending (as_wanted wanted flag) (atom b)) s
  unfolding work
  work_end b s = refl

  pub work_on : (h t u : Tree) (s x : Spent) → again h s ≡ done u x → work test wanted again flag (pair h t) s ≡ join u (work test wanted again (flag || test h u) t x)
  unfolding work join ◌>>=◌
  work_on h t u s x p = bind_at (again h) (λ v. work test wanted again (flag || test h v) t >>= before v) s x u p

  pub work_stops : (h t : Tree) (s x : Spent) (n : Refusal) → again h s ≡ stop n x → work test wanted again flag (pair h t) s ≡ stop n x
  unfolding work
  work_stops h t s x n p = bind_stop (again h) (λ v. work test wanted again (flag || test h v) t >>= before v) s x n p
