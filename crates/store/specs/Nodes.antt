-- The tree that a node stands for, and a tree's fingerprint.
use Rattle.std.specs.Prelude.{ℕ, zero, suc, ◌+◌, ◌%◌, ◌^◌, List, [], ◌∷◌}
use Rattle.meaning.specs.Tree.{Tree, atom, pair}
use Rattle.store.specs.declared.Cell.{Cell}
use Rattle.store.specs.declared.Cell.TheVariants.{Pair, Atom}
use Rattle.store.specs.Cells.{cell_at, bytes_at}

abbrev pub grow : Cell → List ℕ → (ℕ → Tree) → Tree
grow (Pair l r) b t = pair (t l) (t r)
grow Atom b t = atom b

-- to a depth of k; the parts of a pair stand below it, so suc n is enough at n
unfoldable pub tree_to : ℕ → List ℕ → List ℕ → ℕ → Tree
tree_to zero f s n = atom []
tree_to (suc k) f s n = grow (cell_at s n) (bytes_at f s n) (tree_to k f s)

-- the form's bytes, the room's bytes, the node
unfoldable pub tree_at : List ℕ → List ℕ → ℕ → Tree
tree_at f s n = tree_to (suc n) f s n

-- in a clause: the tree at a node, from the bytes of form and room
abbrev pub tree_in : List ℕ → List ℕ → ℕ → Tree
tree_in form room = tree_at form room

-- "a 64-bit fingerprint whose sums wrap on purpose": the left one doubled, so that order matters
unfoldable pub mixed : ℕ → ℕ → ℕ
mixed a b = (((a + a) % 2 ^ 64 + b) % 2 ^ 64 + 1442695040888963407) % 2 ^ 64

unfoldable pub print_from : ℕ → List ℕ → ℕ
print_from a [] = a
print_from a (x ∷ xs) = print_from (mixed a x) xs

unfoldable pub print_of : Tree → ℕ
print_of (atom b) = print_from 7 b
print_of (pair l r) = mixed (print_of l) (print_of r)
