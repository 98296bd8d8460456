-- The store's invariant: what its records are right about, and the budget that always leaves room.
use Rattle.std.specs.Prelude.{◌≡◌, ℕ, ◌+◌, ◌-◌, ◌*◌, ◌/◌, ◌%◌, ◌<◌, ◌≤◌, Bool, List, [], length, ◌==◌, slice_index, slice_set}
use Rattle.meaning.specs.Tree.{atom}
use Rattle.meaning.specs.Limits.{unit_limit}
use Rattle.meaning.specs.Constant.{seems_constant, seems_constant_tail}
use Rattle.store.specs.declared.Cell.TheVariants.{Pair, Atom}
use Rattle.store.specs.declared.Charges.{Charges}
use Rattle.store.specs.Cells.{num16, num64, kind_at, cell_at, Starts, pick}
use Rattle.store.specs.Nodes.{tree_at, print_of}

-- ---- remembered answers: a base-4 digit of the kind byte, below 2 not known, 2 no, 3 yes

-- digit 1: does the node seem constant?
unfoldable pub noted_at : List ℕ → ℕ → ℕ
noted_at s n = slice_index s n / 4 % 4

-- digit 2: does it as a tail?
unfoldable pub noted_tail_at : List ℕ → ℕ → ℕ
noted_tail_at s n = slice_index s n / 16 % 4

unfoldable pub digit : Bool → ℕ
digit b = pick b 3 2

unfoldable pub note : List ℕ → ℕ → Bool → List ℕ
note s n b = slice_set s n (slice_index s n % 4 + digit b * 4 + slice_index s n / 16 * 16)

unfoldable pub note_tail : List ℕ → ℕ → Bool → List ℕ
note_tail s n b = slice_set s n (slice_index s n % 16 + digit b * 16 + slice_index s n / 64 * 64)

-- ---- the records

-- a pair with the parts l and r is right in all that its record remembers
pub record PairRight (f s : List ℕ) (n l r : ℕ) : Type 0 where
  pub left : Starts s l
  pub right : Starts s r
  pub print : num64 s (n + 5) ≡ print_of (tree_at f s n)
  pub known : 2 ≤ noted_at s n → (noted_at s n == 3) ≡ seems_constant (tree_at f s n)
  pub known_tail : 2 ≤ noted_tail_at s n → (noted_tail_at s n == 3) ≡ seems_constant_tail (tree_at f s n)
  pub same_node : Starts s (num16 s (n + 13))
  pub same_below : num16 s (n + 13) ≤ n
  pub same_tree : tree_at f s (num16 s (n + 13)) ≡ tree_at f s n

-- a made atom's bytes lie among the made bytes, which begin at t
pub record MadeRight (s : List ℕ) (t n : ℕ) : Type 0 where
  pub above : t ≤ num16 s (n + 1)
  pub within : num16 s (n + 1) + num16 s (n + 3) ≤ 65536

-- bytes of an atom, at most
abbrev pub atom_most : ℕ
atom_most = 256

-- records fill the room up to n, made bytes from t on
pub record Store (f s : List ℕ) (n t : ℕ) : Type 0 where
  pub size : 65536 ≤ length s
  pub order : n + 10 ≤ t
  pub top : t < 65536
  pub ends : Starts s n
  pub made : (m : ℕ) → Starts s m → m < n → kind_at s m ≡ 1 → MadeRight s t m
  pub short : (m : ℕ) → Starts s m → m < n → cell_at s m ≡ Atom → num16 s (m + 3) ≤ atom_most
  pub pairs : (m l r : ℕ) → Starts s m → m < n → cell_at s m ≡ Pair l r → PairRight f s m l r

-- ---- the charges

-- bytes that may be laid free of units
abbrev pub free_limit : ℕ
free_limit = 4_000

-- k bytes more than are taken: a pair's 8 units pay for its 15 bytes, an atom's 4 + n for its 5 + n
unfoldable pub Paid : Charges → ℕ → Type 0
Paid c k = 8 * (c.end + k + (65_535 - c.top)) ≤ 15 * c.units + 8 * c.free

-- a store within its budget; node 0 is nil
pub record Held (f s : List ℕ) (c : Charges) : Type 0 where
  pub store : Store f s c.end c.top
  pub begun : 0 < c.end
  pub nil_at : tree_at f s 0 ≡ atom []
  pub units : c.units ≤ unit_limit
  pub free : c.free ≤ free_limit
  pub paid : Paid c 0

-- m is a node of the store
pub record Ready (f s : List ℕ) (c : Charges) (m : ℕ) : Type 0 where
  pub held : Held f s c
  pub node : Starts s m
  pub old : m < c.end
