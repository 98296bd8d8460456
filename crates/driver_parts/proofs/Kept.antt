-- What a function of the driver asks is kept as the store grows. Assumes nothing.
use mathlib.Core.List.{List}
use mathlib.Core.Path.{◌≡◌}
use Prim.Native.Nat.{ℕ, ◌+◌, ◌-◌, ◌*◌, ◌<◌, ◌≤◌}
use native.Mathlib.Omega.{arith}
use Rattle.meaning.specs.Limits.{pass_limit}
use Rattle.meaning.proofs.CostRun.{Fits}
use Rattle.store.specs.Cells.{Room}
use Rattle.store.specs.Store.{Ready}
use Rattle.store.specs.Makers.{Grown}
use Rattle.store.proofs.Ready.{room, small, grown_ready}
use Rattle.patterns.specs.declared.Patterns.{Patterns}
use Rattle.patterns.proofs.Laws.{patterned_grown}
use Rattle.run_state.specs.declared.Work.{Work}
use Rattle.run_state.specs.Work.{spent_of}
use Rattle.driver_parts.specs.Turns.{Fine}

-- another node, and passes within the limit
pub fine_kept : (f s s' : List ℕ) (w w' : Work) (p : Patterns) (m n : ℕ) → Fine f s w p m → Grown f s s' w.ch w'.ch → Ready f s' w'.ch n → w'.passes ≤ pass_limit
    → Fine f s' w' p n
fine_kept f s s' w w' p m n h g r l = record { ready = r; patterned = patterned_grown g h.patterned; passes = l }

-- the same node
pub fine_same : (f s s' : List ℕ) (w w' : Work) (p : Patterns) (n : ℕ) → Fine f s w p n → Grown f s s' w.ch w'.ch → w'.passes ≤ pass_limit → Fine f s' w' p n
fine_same f s s' w w' p n h g l = fine_kept f s s' w w' p n n h g (grown_ready g h.ready) l

pub fine_room : (f s : List ℕ) (w : Work) (p : Patterns) (n : ℕ) → Fine f s w p n → Room s n
fine_room f s w p n h = room f s w.ch n h.ready

pub fine_fits : (f s : List ℕ) (w : Work) (p : Patterns) (n : ℕ) → Fine f s w p n → Fits (spent_of w)
fine_fits f s w p n h = (h.ready.held.units, h.passes)

-- the cycle's measure: a list's node is below any function's rank
pub fine_down : (f s : List ℕ) (w : Work) (p : Patterns) (n nest t : ℕ) → Fine f s w p n → (66 - nest) * 70_000 + 65_541 ≡ t → (66 - nest) * 70_000 + n < t
fine_down f s w p n nest t h e = omega (arith, small f s w.ch n h.ready)
