-- Tests on a tree that the Rust makes on an atom's bytes.
use Rattle.std.specs.Prelude.{ℕ, Bool, false}
use Rattle.meaning.specs.Tree.{Tree, atom, pair, is_byte, is_empty}

-- an atom of the one byte k
unfoldable pub is_byte_tree : ℕ → Tree → Bool
unfolding is_byte
is_byte_tree k (atom b) = is_byte k b
is_byte_tree k (pair l r) = false

-- nil
unfoldable pub is_nil : Tree → Bool
unfolding is_empty
is_nil (atom b) = is_empty b
is_nil (pair l r) = false
