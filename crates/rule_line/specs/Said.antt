-- What one rule makes of a form.
use Rattle.std.specs.Prelude.{ℕ, ◌≡◌, List, Bool, true, false, leb, length}
use Rattle.refusals.specs.declared.Refusal.{Refusal}
use Rattle.refusals.specs.declared.Refusal.TheVariants.{OutputShort}
use Rattle.meaning.specs.Tree.{Tree, equal_to}
use Rattle.meaning.specs.Meter.{Out, done, stop, Spent}
use Rattle.meaning.specs.Form.{read_form, write}
use Rattle.meaning.specs.Run.{after_reading}
use Rattle.store.specs.Nodes.{tree_at}
use Rattle.form.specs.Writes.{Writable}
use Rattle.run_state.specs.declared.Outcome.{Outcome}
use Rattle.run_state.specs.declared.Outcome.TheVariants.{Same, Changed, Stopped}
use Rattle.run_state.specs.declared.Work.{Work}
use Rattle.run_state.specs.Work.{spent_of}
use Rattle.driver.specs.Alone.{one_rule}

-- the tree is the same; or its bytes are these; or a refusal. With units and mark
pub data Said : Type 0 where
  same : (units : ℕ) (mark : Bool) → Said
  changed : (bytes : List ℕ) (units : ℕ) (mark : Bool) → Said
  refused : Refusal → Said

-- another tree, written: "14 last"
unfoldable pub written : ℕ → Tree → Spent → Said
unfolding write
written out-length t s = elim (leb (length (write t)) out-length) [ true ↦ changed (write t) s.units s.mark | false ↦ refused OutputShort ]

-- what is said of a tree that the rule worked
unfoldable pub said_of : ℕ → Tree → Out Spent Tree → Said
unfolding equal_to written
said_of out-length t (done u s) = elim (equal_to t u) [ true ↦ same s.units s.mark | false ↦ written out-length u s ]
said_of out-length t (stop n s) = refused n

-- the form is read, and its tree given to the rule of this number
unfoldable pub said : ℕ → List ℕ → ℕ → Said
unfolding read_form one_rule said_of
said k form out-length = elim (read_form form 0) [
  | done t r ↦ said_of out-length t (one_rule k t (after_reading r))
  | stop n r ↦ refused n
]

-- ---- the rule's work on the form f in a room that is now s

pub record LeftSame (k : ℕ) (f : List ℕ) (w : Work) : Type 0 where
  pub is : (out-length : ℕ) → said k f out-length ≡ same w.ch.units w.mark

pub record ChangedAt (k : ℕ) (f s : List ℕ) (w : Work) (m : ℕ) : Type 0 where
  pub writable : Writable f s m
  pub is : (out-length : ℕ) → said k f out-length ≡ written out-length (tree_at f s m) (spent_of w)

pub record RefusedBy (k : ℕ) (f : List ℕ) (n : Refusal) : Type 0 where
  pub is : (out-length : ℕ) → said k f out-length ≡ refused n

unfoldable pub Applies : ℕ → List ℕ → List ℕ → Work → Outcome → Type 0
Applies k f s w Same = LeftSame k f w
Applies k f s w (Changed m) = ChangedAt k f s w m
Applies k f s w (Stopped n) = RefusedBy k f n

-- read by its outcome
unfoldable pub Applied : ℕ → List ℕ → List ℕ → Work → Type 0
unfolding Applies
Applied k f s w = Applies k f s w w.last
