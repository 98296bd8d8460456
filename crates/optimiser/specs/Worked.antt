-- The steps of `optimise`: a run's work in the room.
use Rattle.refusals.specs.declared.Refusal.{Refusal}
use Rattle.std.specs.Prelude.{Result, Ok, Err}
use Rattle.std.specs.Prelude.{ℕ, ◌≡◌, List}
use Rattle.meaning.specs.Meter.{done}
use Rattle.meaning.specs.Run.{worked}
use Rattle.store.specs.declared.Charges.{Charges}
use Rattle.store.specs.Nodes.{tree_at}
use Rattle.store.specs.Store.{Held}
use Rattle.form.specs.Writes.{Writable}
use Rattle.patterns.specs.declared.Patterns.{Patterns}
use Rattle.patterns.specs.Patterns.{Patterned}
use Rattle.run_state.specs.declared.Outcome.{Outcome}
use Rattle.run_state.specs.declared.Outcome.TheVariants.{Same, Changed, Stopped}
use Rattle.run_state.specs.declared.Work.{Work}
use Rattle.run_state.specs.Work.{spent_of, StoppedBy}
use Rattle.optimiser.specs.declared.Finished.{Finished}

-- a store that has the patterns, and in which nothing is charged yet
pub record Fresh (f s : List ℕ) (c : Charges) (p : Patterns) : Type 0 where
  pub held : Held f s c
  pub patterned : Patterned f s c p
  pub units : c.units ≡ 0

-- what the driver says of the node n
unfoldable pub finish_at : ℕ → Work → Outcome → Result Finished Refusal
finish_at n w Same = Ok (record { node = n; work = w })
finish_at n w (Changed m) = Ok (record { node = m; work = w })
finish_at n w (Stopped r) = Err r

-- the form f is worked to the tree of node n, which can be written, and w says what was spent
pub record WorkedTo (f s : List ℕ) (n : ℕ) (w : Work) : Type 0 where
  pub writable : Writable f s n
  pub is : worked f ≡ done (tree_at f s n) (spent_of w)

-- the form's work, in a room that is now s
unfoldable pub WorkedOk : List ℕ → List ℕ → Result Finished Refusal → Type 0
WorkedOk f s (Ok a) = WorkedTo f s a.node a.work
WorkedOk f s (Err r) = StoppedBy r (worked f)
