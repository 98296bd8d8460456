-- Nodes that stand for the same tree.
use Rattle.std.specs.Prelude.{ℕ, ◌≤◌, ◌≡◌, List, Bool, false}
use Rattle.store.specs.declared.Cell.{Cell}
use Rattle.store.specs.declared.Cell.TheVariants.{Pair, Atom}
use Rattle.store.specs.declared.Charges.{Charges}
use Rattle.store.specs.Cells.{cell_at, bytes_at}
use Rattle.store.specs.Nodes.{tree_at}
use Rattle.store.specs.Store.{Ready}
use Rattle.meaning.specs.Tree.{same_bytes}
use Rattle.sexp.specs.declared.Compared.{Compared}
use Rattle.sexp.specs.declared.Compared.TheVariants.{Told, Parts}

-- m is at or below n
pub record Canon (f s : List ℕ) (c : Charges) (n m : ℕ) : Type 0 where
  pub ready : Ready f s c m
  pub below : m ≤ n
  pub tree : tree_at f s m ≡ tree_at f s n

-- two pairs
pub record Alike (f s : List ℕ) (c : Charges) (a b : ℕ) : Type 0 where
  pub one : Ready f s c a
  pub other : Ready f s c b
  pub one_pair : cell_at s a ≡ Atom → ⊥
  pub other_pair : cell_at s b ≡ Atom → ⊥
  pub tree : tree_at f s a ≡ tree_at f s b

-- the parts of the pairs a and b
pub record BothPairs (s : List ℕ) (a b l r m n : ℕ) : Type 0 where
  pub one : cell_at s a ≡ Pair l r
  pub other : cell_at s b ≡ Pair m n

-- what two cells tell, where u says whether the bytes are the same; or the parts that are left to compare
abbrev pub of_cells : Bool → Cell → Cell → Compared
of_cells u (Pair l r) (Pair m n) = Parts l r m n
of_cells u (Pair l r) Atom = Told false
of_cells u Atom (Pair m n) = Told false
of_cells u Atom Atom = Told u

-- what the records of a and b tell
unfoldable pub compared : List ℕ → List ℕ → ℕ → ℕ → Compared
compared f s a b = of_cells (same_bytes (bytes_at f s a) (bytes_at f s b)) (cell_at s a) (cell_at s b)
