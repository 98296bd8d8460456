-- What the writer of a node asks and promises.
use Rattle.std.specs.Prelude.{Option, Some, None}
use Rattle.std.specs.Prelude.{ℕ, ◌+◌, ◌≤◌, ◌<◌, ◌≡◌, List, ◌++◌, Bool, true, false, length, take, drop, leb}
use Rattle.meaning.specs.Tree.{Tree, atom, pair, same_bytes}
use Rattle.store.specs.Cells.{Room}
use Rattle.store.specs.Nodes.{tree_at}
use Rattle.store.specs.Store.{atom_most}

-- every atom is as short as the store's are
unfoldable pub Short : Tree → Type 0
Short (atom b) = length b ≤ atom_most
Short (pair l r) = Short l × Short r

-- the place n can be read and its tree written; of the store's nodes this holds
pub record Writable (f s : List ℕ) (n : ℕ) : Type 0 where
  pub room : Room s n
  pub short : Short (tree_at f s n)

-- w stands at the front, and r says how long it is; the rest is as it was
pub record Wrote (w : List ℕ) (r : ℕ) (before after : List ℕ) : Type 0 where
  pub count : r ≡ length w
  pub bytes : after ≡ w ++ drop (length w) before

-- n bytes, where a limit allows them
unfoldable pub extent : ℕ → ℕ → Option ℕ
extent limit n = elim (leb n limit) [ true ↦ Some n | false ↦ None ]

-- ---- w compared with bytes that were written before

-- w stands in f from at on
unfoldable pub stands : List ℕ → ℕ → List ℕ → Bool
unfolding same_bytes
stands f at w = same_bytes (take (length w) (drop at f)) w

-- the place after w, if it does
unfoldable pub followed : List ℕ → ℕ → List ℕ → Option ℕ
unfolding stands
followed f at w = elim (stands f at w) [ true ↦ Some (at + length w) | false ↦ None ]

-- ---- w delivered: written where the output has room for it

pub record WroteAll (w : List ℕ) (k : ℕ) (before after : List ℕ) : Type 0 where
  pub fits : length w ≤ length before
  pub wrote : Wrote w k before after

-- there was no room, and nothing was touched
pub record WroteNone (w before after : List ℕ) : Type 0 where
  pub over : length before < length w
  pub kept : after ≡ before

unfoldable pub Delivered : List ℕ → List ℕ → List ℕ → Option ℕ → Type 0
Delivered w before after (Some k) = WroteAll w k before after
Delivered w before after None = WroteNone w before after
