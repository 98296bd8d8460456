-- What a run has spent, as the definitions have it, and what a piece of work says.
use Rattle.std.specs.Prelude.{ℕ, ◌≡◌, List, Bool, false, ◌||◌, Result, Ok, Err}
use Rattle.refusals.specs.declared.Refusal.{Refusal}
use Rattle.meaning.specs.Tree.{Tree, equal_to}
use Rattle.meaning.specs.Meter.{Out, done, stop, Spent}
use Rattle.store.specs.declared.Made.{Made}
use Rattle.store.specs.Nodes.{tree_at}
use Rattle.store.specs.Store.{Ready}
use Rattle.store.specs.Makers.{Grown}
use Rattle.run_state.specs.declared.Outcome.{Outcome}
use Rattle.run_state.specs.declared.Outcome.TheVariants.{Same, Changed, Stopped}
use Rattle.run_state.specs.declared.Work.{Work}

-- the definitions' state
abbrev pub spent_of : Work → Spent
spent_of w = record { units = w.ch.units; passes = w.passes; mark = w.mark }

-- the same work, which now says o
abbrev pub with_last : Work → Outcome → Work
with_last w o = record { ch = w.ch; passes = w.passes; mark = w.mark; last = o }

-- the same work, marked if off
abbrev pub marked_work : Work → Bool → Work
marked_work w off = record { ch = w.ch; passes = w.passes; mark = w.mark || off; last = w.last }

-- what a maker answered, as work
abbrev pub work_made : Work → Result Made Refusal → Work
work_made w (Ok m) = record { ch = m.ch; passes = w.passes; mark = w.mark; last = Changed m.node }
work_made w (Err r) = with_last w (Stopped r)

-- ---- what a piece of work on the tree x says of the definition's outcome `def`

-- it gave x back: the store only grew
pub record SameAs (f s s' : List ℕ) (w w' : Work) (x : Tree) (def : Out Spent Tree) : Type 0 where
  pub grown : Grown f s s' w.ch w'.ch
  pub gives : def ≡ done x (spent_of w')

-- it gave another tree, which now stands at m
pub record ChangedTo (f s s' : List ℕ) (w w' : Work) (x : Tree) (m : ℕ) (def : Out Spent Tree) : Type 0 where
  pub grown : Grown f s s' w.ch w'.ch
  pub ready : Ready f s' w'.ch m
  pub gives : def ≡ done (tree_at f s' m) (spent_of w')
  pub differs : equal_to x (tree_at f s' m) ≡ false

-- it was refused
pub record StoppedBy (r : Refusal) (def : Out Spent Tree) : Type 0 where
  pub after : Spent
  pub stops : def ≡ stop r after

-- "unchanged, changed to a node, or stopped by a named refusal": what the outcome says of the work `def` on the tree x
unfoldable pub Says : List ℕ → List ℕ → List ℕ → Work → Work → Tree → Out Spent Tree → Outcome → Type 0
Says f s s' w w' x def Same = SameAs f s s' w w' x def
Says f s s' w w' x def (Changed m) = ChangedTo f s s' w w' x m def
Says f s s' w w' x def (Stopped r) = StoppedBy r def

-- the work after, read by its outcome
unfoldable pub Did : List ℕ → List ℕ → List ℕ → Work → Tree → Out Spent Tree → Work → Type 0
unfolding Says
Did f s s' w x def w' = Says f s s' w w' x def w'.last
