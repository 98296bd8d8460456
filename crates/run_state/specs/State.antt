-- The memo: its records in a row, what its entries say, and the memo of a run's state.
use Rattle.std.specs.Prelude.{ℕ, ◌+◌, ◌<◌, ◌≤◌, ◌≡◌, List, [], ◌∷◌, Bool, true, false, get_or, length}
use Rattle.meaning.specs.Tree.{equal_to}
use Rattle.meaning.specs.Meter.{Spent}
use Rattle.meaning.proofs.Memo as law
use Rattle.store.specs.declared.Charges.{Charges}
use Rattle.store.specs.Nodes.{tree_at}
use Rattle.store.specs.Store.{Ready}
use Rattle.run_state.specs.Notes.{count_records}
use Rattle.run_state.specs.declared.Outcome.{Outcome}
use Rattle.run_state.specs.declared.Outcome.TheVariants.{Same, Changed, Stopped}
use Rattle.run_state.specs.declared.Entry.{Entry}
use Rattle.run_state.specs.declared.State.{State}

-- ---- entries

-- an entry's numbers in the row, and back
abbrev pub entry_of : List ℕ → Entry
entry_of a = record { expr = get_or a 0 0; result = get_or a 1 0; passes = get_or a 2 0; units = get_or a 3 0; height = get_or a 4 0; print = get_or a 5 0 }

abbrev pub record_of : Entry → List ℕ
record_of e = e.expr ∷ e.result ∷ e.passes ∷ e.units ∷ e.height ∷ e.print ∷ []

-- the entry at a place of the row
abbrev pub entry_at : List (List ℕ) → ℕ → Entry
entry_at row i = entry_of (get_or row i [])

-- an entry that may be answered from: its work would end the same wherever its cost and its height fit
pub record Sound (f s : List ℕ) (c : Charges) (mark : Bool) (e : Entry) : Type 0 where
  pub expr : Ready f s c e.expr
  pub result : Ready f s c e.result
  pub cost : Spent
  pub units : cost.units ≡ e.units
  pub passes : cost.passes ≡ e.passes
  -- "an entry's mark is at most the run's"
  pub marked : cost.mark ≡ true → mark ≡ true
  pub repeats : law.Entry (tree_at f s e.expr) (tree_at f s e.result) cost e.height
  -- the result is the expression's own node where the work changed nothing
  pub differs : (e.expr ≡ e.result → ⊥) → equal_to (tree_at f s e.expr) (tree_at f s e.result) ≡ false

-- every entry in use is sound, and none is where the counts are (data, not a record: `search` builds records)
pub data Sounds (f s : List ℕ) (c : Charges) (mark : Bool) (used : ℕ) (row : List (List ℕ)) : Type 0 where
  sounds : used + count_records ≤ length row → ((i : ℕ) → i < used → Sound f s c mark (entry_at row i)) → Sounds f s c mark used row

-- the memo of a state, which stands in the row
abbrev pub Valid : List ℕ → List ℕ → List (List ℕ) → State → Type 0
Valid f s row st = Sounds f s st.w.ch st.w.mark st.used row

unfoldable pub UnlessStopped : Outcome → Type 0 → Type 0
UnlessStopped Same a = a
UnlessStopped (Changed m) a = a
UnlessStopped (Stopped r) a = Unit

-- the memo after work: nothing is said after a refusal
unfoldable pub Still : List ℕ → List ℕ → List (List ℕ) → State → Type 0
unfolding UnlessStopped
Still f s row st = UnlessStopped st.w.last (Valid f s row st)
