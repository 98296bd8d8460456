-- What each return of the tests needs.
use mathlib.Core.Path.{◌≡◌, refl, sym, ◌∙◌}
use mathlib.Core.List.{List, [], ◌∷◌}
use mathlib.Core.Bool.{Bool, true, false, not}
use Prim.Native.Nat.{ℕ, ◌+◌, ◌<◌, ◌≤◌}
use native.Mathlib.Omega.{arith}
use lib.ListN.{get_or, length}
use lib.Dec.{eqb}
use borrow.Author.Tests.{ne_eqb}
use Rattle.meaning.specs.Tree.{Tree, atom, pair, is_byte, is_empty, non_nil}
use Rattle.meaning.specs.Substitute.{is_proper}
use Rattle.store.specs.declared.Cell.{Cell}
use Rattle.store.specs.declared.Cell.TheVariants.{Pair, Atom}
use Rattle.store.specs.Cells.{cell_at, bytes_at, Room}
use Rattle.store.specs.Nodes.{tree_at}
use Rattle.store.proofs.Ready.{look_atom}
use Rattle.store.proofs.Trees.{cell_below, tree_pair}
use Rattle.sexp.specs.Tests.{is_byte_tree, is_nil}

pub byte_one : (b : List ℕ) (k : ℕ) → length b ≡ 1 → eqb (get_or b 0 0) k ≡ is_byte k b
unfolding is_byte
byte_one [] k e = absurd (omega arith)
byte_one (x ∷ []) k e = refl
byte_one (x ∷ y ∷ b) k e = absurd (omega arith)

pub byte_none : (b : List ℕ) (k : ℕ) → (length b ≡ 1 → ⊥) → false ≡ is_byte k b
unfolding is_byte
byte_none [] k e = refl
byte_none (x ∷ []) k e = absurd (e refl)
byte_none (x ∷ y ∷ b) k e = refl

nil_length : (b : List ℕ) → not (eqb (length b) 0) ≡ non_nil (atom b)
unfolding non_nil
nil_length [] = refl
nil_length (x ∷ b) = let o : length (x ∷ b) ≡ 0 → ⊥ = λ e. omega arith in rw (ne_eqb _ _ o)

-- after a look that gave a pair
module _ (f s : List ℕ) (n l r : ℕ) (q : Cell) (ep : q ≡ Pair l r) (eq : q ≡ cell_at s n) where
  tree : tree_at f s n ≡ pair (tree_at f s l) (tree_at f s r)
  tree = tree_pair f s n l r (sym eq ∙ ep)

  pub byte_pair : (k : ℕ) → false ≡ is_byte_tree k (tree_at f s n)
  unfolding is_byte_tree
  byte_pair k = rw tree

  pub non_nil_pair : true ≡ non_nil (tree_at f s n)
  unfolding non_nil
  non_nil_pair = rw tree

-- after a look that gave an atom
module _ (f s : List ℕ) (n : ℕ) (q : Cell) (eq : q ≡ cell_at s n) (ep : q ≡ Atom) where
  pub byte_atom : (z : List ℕ) (k : ℕ) (u : Bool) → u ≡ is_byte k z → z ≡ bytes_at f s n → u ≡ is_byte_tree k (tree_at f s n)
  unfolding is_byte_tree
  byte_atom z k u e ez = rw (look_atom f s n q eq ep, ← ez) e

  pub non_nil_atom : (z : List ℕ) → z ≡ bytes_at f s n → not (eqb (length z) 0) ≡ non_nil (tree_at f s n)
  non_nil_atom z ez = rw (look_atom f s n q eq ep, ← ez) (nil_length z)

pub nil_not : (t : Tree) (u : Bool) → u ≡ non_nil t → not u ≡ is_nil t
unfolding non_nil is_nil is_empty
nil_not (atom []) u e = rw e
nil_not (atom (x ∷ b)) u e = rw e
nil_not (pair l r) u e = rw e

-- ---- down the right parts

-- the rest of the list is proper just where the list is
pub record Onward (f s : List ℕ) (n m : ℕ) : Type 0 where
  pub room : Room s m
  pub proper : is_proper (tree_at f s m) ≡ is_proper (tree_at f s n)

pub onward_turn : (f s : List ℕ) (n m l r : ℕ) (q : Cell) → Onward f s n m → q ≡ Pair l r → q ≡ cell_at s m → Onward f s n r
unfolding is_proper
onward_turn f s n m l r q h ep eq =
    let b = cell_below s m l r (sym eq ∙ ep) in
    let o : m + 15 ≤ 65536 = h.room.node in
    record { room = record { node = omega arith; size = h.room.size }; proper = rw (tree_pair f s m l r (sym eq ∙ ep)) at h.proper }

pub onward_falls : (s : List ℕ) (m l r : ℕ) (q : Cell) → q ≡ Pair l r → q ≡ cell_at s m → r < m
onward_falls s m l r q ep eq = (cell_below s m l r (sym eq ∙ ep)).fall_right

pub onward_ends : (f s : List ℕ) (n m : ℕ) (q : Cell) (u : Bool) → Onward f s n m → q ≡ cell_at s m → q ≡ Atom → u ≡ is_nil (tree_at f s m) → u ≡ is_proper (tree_at f s n)
unfolding is_proper is_nil
onward_ends f s n m q u h eq ep e = rw (← h.proper, look_atom f s m q eq ep) (rw (look_atom f s m q eq ep) at e)
