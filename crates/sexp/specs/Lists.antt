-- Lists of nodes.
use Rattle.std.specs.Prelude.{ℕ, ◌<◌, ◌≤◌, List, [], ◌∷◌, get_or, length}
use Rattle.meaning.specs.Tree.{Tree, pair}
use Rattle.store.specs.declared.Charges.{Charges}
use Rattle.store.specs.Cells.{Starts}

-- sexp.rs, `enlist`, onto a tail
unfoldable pub enlist_onto : List Tree → Tree → Tree
enlist_onto [] tail = tail
enlist_onto (t ∷ ts) tail = pair t (enlist_onto ts tail)

-- the first k items are nodes
pub record Items (s : List ℕ) (c : Charges) (items : List ℕ) (k : ℕ) : Type 0 where
  pub within : k ≤ length items
  pub nodes : (j : ℕ) → j < k → Starts s (get_or items j 0)
  pub old : (j : ℕ) → j < k → get_or items j 0 < c.end
