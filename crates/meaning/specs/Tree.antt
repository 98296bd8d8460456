-- Trees of CLVM: an atom with its bytes, or a pair; and the tests that sexp.rs makes on them.
use Rattle.std.specs.Prelude.{ℕ, List, [], ◌∷◌, Bool, true, false, ◌&&◌, eqb}
use Rattle.std.proofs.Math.Option.{Option, none, some}

-- 01: an atom's bytes, of any length, or a pair of two trees
pub data Tree : Type 0 where
  atom : List ℕ → Tree
  pair : Tree → Tree → Tree

-- 01: "Every empty atom is nil"
abbrev pub nil : Tree
nil = atom []

-- the atom of one byte
abbrev pub byte : ℕ → Tree
byte b = atom (b ∷ [])

-- sexp.rs, `enlist`: a list that ends in nil
unfoldable pub enlist : List Tree → Tree
enlist [] = nil
enlist (t ∷ ts) = pair t (enlist ts)

-- sexp.rs, `proper_list`: the elements of a list that ends in nil
unfoldable pub proper_list : Tree → Option (List Tree)
proper_list (atom []) = some []
proper_list (atom (b ∷ bs)) = none
proper_list (pair t r) = elim (proper_list r) [ none ↦ none | some ts ↦ some (t ∷ ts) ]

-- two atoms' bytes are the same
unfoldable pub same_bytes : List ℕ → List ℕ → Bool
same_bytes [] [] = true
same_bytes [] (y ∷ ys) = false
same_bytes (x ∷ xs) [] = false
same_bytes (x ∷ xs) (y ∷ ys) = eqb x y && same_bytes xs ys

-- sexp.rs, `equal_to`: the same structure
unfoldable pub equal_to : Tree → Tree → Bool
unfolding same_bytes
equal_to (atom a) (atom b) = same_bytes a b
equal_to (atom a) (pair c d) = false
equal_to (pair a b) (atom c) = false
equal_to (pair a b) (pair c d) = equal_to a c && equal_to b d

-- no bytes: what `sexp == NodePtr::NIL` asks of an atom
unfoldable pub is_empty : List ℕ → Bool
is_empty [] = true
is_empty (b ∷ bs) = false

-- the one byte k: what `len() == 1 && [0] == k` asks of an atom
unfoldable pub is_byte : ℕ → List ℕ → Bool
is_byte k [] = false
is_byte k (b ∷ []) = eqb b k
is_byte k (b ∷ c ∷ bs) = false

-- sexp.rs, `non_nil`
unfoldable pub non_nil : Tree → Bool
non_nil (atom []) = false
non_nil (atom (b ∷ bs)) = true
non_nil (pair l r) = true

-- a pair headed by the byte 1
unfoldable pub is_quote : Tree → Bool
unfolding is_byte
is_quote (atom b) = false
is_quote (pair (atom o) r) = is_byte 1 o
is_quote (pair (pair a b) r) = false

-- helpers.rs, `quote`
unfoldable pub quote : Tree → Tree
quote t = pair (byte 1) t
