-- What the reader promises: the definition's outcome, and a node that stands for the tree.
use Rattle.refusals.specs.declared.Refusal.{Refusal}
use Rattle.std.specs.Prelude.{Result, Ok, Err}
use Rattle.std.specs.Prelude.{ℕ, ◌≤◌, ◌<◌, ◌≡◌, List, [], length}
use Rattle.meaning.specs.Tree.{Tree}
use Rattle.meaning.specs.Meter.{Out, done}
use Rattle.meaning.specs.Form.{Reading, read_form}
use Rattle.store.specs.declared.Charges.{Charges}
use Rattle.store.specs.declared.Made.{Made}
use Rattle.store.specs.Nodes.{tree_at}
use Rattle.store.specs.Store.{Ready}
use Rattle.store.specs.Makers.{Grown}
use Rattle.form.specs.declared.Parsed.{Parsed}
use Rattle.form.specs.Spans.{span, left_from, Stops}

-- the bytes from at to end are lent, and a place there fits a record
pub record Stretch (f : List ℕ) (end at : ℕ) : Type 0 where
  pub inside : at ≤ end
  pub lent : end ≤ length f
  pub small : end < 65_536

-- the definition's outcome o is the tree of node q, with the bytes from next on left and what c' says charged
pub record ReadTo (f s s' : List ℕ) (end at : ℕ) (c c' : Charges) (o : Out Reading Tree) (q next : ℕ) : Type 0 where
  pub after : at ≤ next
  pub within : next ≤ end
  pub grown : Grown f s s' c c'
  pub ready : Ready f s' c' q
  pub free : c'.free ≡ c.free
  pub is : o ≡ done (tree_at f s' q) (left_from f next end c'.units)

-- a tree of the bytes from at to end
unfoldable pub ReadOk : List ℕ → List ℕ → List ℕ → ℕ → ℕ → Charges → Out Reading Tree → Result Parsed Refusal → Type 0
ReadOk f s s' end at c o (Ok a) = ReadTo f s s' end at c a.ch o a.node a.next
ReadOk f s s' end at c o (Err n) = Stops o n

-- all of the bytes from at to end, as one form
unfoldable pub FormOk : List ℕ → List ℕ → List ℕ → ℕ → ℕ → Charges → Result Made Refusal → Type 0
FormOk f s s' end at c (Ok a) = ReadTo f s s' end at c a.ch (read_form (span f at end) c.units) a.node end
FormOk f s s' end at c (Err n) = Stops (read_form (span f at end) c.units) n

-- all of f as one form, in a store that had nil only
pub record WholeTo (f s' : List ℕ) (c' : Charges) (q : ℕ) : Type 0 where
  pub ready : Ready f s' c' q
  pub is : read_form f 0 ≡ done (tree_at f s' q) (record { left = []; units = c'.units })

unfoldable pub WholeOk : List ℕ → List ℕ → Result Made Refusal → Type 0
WholeOk f s' (Ok a) = WholeTo f s' a.ch a.node
WholeOk f s' (Err n) = Stops (read_form f 0) n

-- what was made, and where the next byte stands
unfoldable pub reading_of : Result Made Refusal → ℕ → Result Parsed Refusal
reading_of (Ok m) next = Ok (record { node = m.node; next = next; ch = m.ch })
reading_of (Err n) next = Err n
