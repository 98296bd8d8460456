-- The bytes of the store: a pair's record has 15 bytes, an atom's 5; a node is numbered by its record's place.
use Rattle.std.specs.Prelude.{◌≡◌, ℕ, zero, suc, ◌+◌, ◌*◌, ◌/◌, ◌%◌, ◌<◌, ◌≤◌, Bool, true, false, List, length, take, drop, ◌==◌, nat_lt, slice_index, slice_set}
use Rattle.store.specs.declared.Cell.{Cell}
use Rattle.store.specs.declared.Cell.TheVariants.{Pair, Atom}

abbrev pub pick : {A : Type 0} → Bool → A → A → A
pick true a b = a
pick false a b = b

-- ---- numbers of 2, 4 and 8 bytes at i, low byte first: read, and written

unfoldable pub num16 : List ℕ → ℕ → ℕ
num16 s i = slice_index s i + slice_index s (i + 1) * 256

unfoldable pub num32 : List ℕ → ℕ → ℕ
num32 s i = num16 s i + num16 s (i + 2) * 65536

unfoldable pub num64 : List ℕ → ℕ → ℕ
num64 s i = num32 s i + num32 s (i + 4) * 4294967296

unfoldable pub put16 : List ℕ → ℕ → ℕ → List ℕ
put16 s i x = slice_set (slice_set s i (x % 256)) (i + 1) (x / 256)

unfoldable pub put32 : List ℕ → ℕ → ℕ → List ℕ
put32 s i x = put16 (put16 s i (x % 65536)) (i + 2) (x / 65536)

unfoldable pub put64 : List ℕ → ℕ → ℕ → List ℕ
put64 s i x = put32 (put32 s i (x % 4294967296)) (i + 4) (x / 4294967296)

-- ---- reading: every place reads as something

-- all of the record that may stand at n lies in the first 65,536 bytes
pub record Room (s : List ℕ) (n : ℕ) : Type 0 where
  pub node : n + 15 ≤ 65536
  pub size : 65536 ≤ length s

-- the kind's lowest two bits: 0 an atom of the form, 1 a made atom, 2 a pair
unfoldable pub kind_at : List ℕ → ℕ → ℕ
kind_at s n = slice_index s n % 4

-- a pair is a record of kind 2 whose parts stand below it; all else is an atom
unfoldable pub cell_at : List ℕ → ℕ → Cell
cell_at s n =
    pick (kind_at s n == 2)
    (pick (nat_lt (num16 s (n + 1)) n)
    (pick (nat_lt (num16 s (n + 3)) n) (Pair (num16 s (n + 1)) (num16 s (n + 3))) Atom) Atom) Atom

-- an atom's bytes: "either in the form or in the made bytes"
unfoldable pub bytes_at : List ℕ → List ℕ → ℕ → List ℕ
bytes_at f s n = take (num16 s (n + 3)) (drop (num16 s (n + 1)) (pick (kind_at s n == 1) s f))

abbrev pub same_of : List ℕ → ℕ → Cell → ℕ
same_of s n (Pair l r) = num16 s (n + 13)
same_of s n Atom = n

-- the node that a pair's record says is the same; an atom is its own
unfoldable pub same_at : List ℕ → ℕ → ℕ
same_at s n = same_of s n (cell_at s n)

-- ---- records follow one another from 0

unfoldable pub size_at : List ℕ → ℕ → ℕ
size_at s n = pick (kind_at s n == 2) 15 5

-- the place of the i-th record
unfoldable pub place : List ℕ → ℕ → ℕ
place s zero = 0
place s (suc i) = place s i + size_at s (place s i)

-- a record starts at n (data, not a record: `search` builds records, and would try every number for the index)
pub data Starts (s : List ℕ) (n : ℕ) : Type 0 where
  standing : (i : ℕ) → place s i ≡ n → Starts s n

-- ---- writing

-- a new pair is known to be the same as itself only
unfoldable pub pair_put : List ℕ → ℕ → ℕ → ℕ → ℕ → List ℕ
pair_put s n l r p = slice_set (put16 (put64 (put16 (put16 s (n + 1) l) (n + 3) r) (n + 5) p) (n + 13) n) n 2

unfoldable pub atom_put : List ℕ → ℕ → ℕ → ℕ → ℕ → List ℕ
atom_put s n k a z = slice_set (put16 (put16 s (n + 1) a) (n + 3) z) n k

-- t is s but for the bytes from a to e
pub record Writes (s t : List ℕ) (a e : ℕ) : Type 0 where
  pub long : length t ≡ length s
  pub below : (j : ℕ) → j < a → slice_index t j ≡ slice_index s j
  pub above : (j : ℕ) → e ≤ j → slice_index t j ≡ slice_index s j

-- t is s with b copied to a
pub record Copied (s t : List ℕ) (a : ℕ) (b : List ℕ) : Type 0 where
  pub writes : Writes s t a (a + length b)
  pub bytes : take (length b) (drop a t) ≡ b
