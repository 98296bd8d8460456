-- What each return of the questions about places needs. Assumes nothing.
use mathlib.Core.Path.{◌≡◌, sym, ◌∙◌}
use mathlib.Core.List.{List}
use mathlib.Core.Bool.{Bool, false}
use Prim.Native.Nat.{ℕ}
use Rattle.meaning.specs.Tree.{is_byte}
use Rattle.store.specs.declared.Cell.{Cell}
use Rattle.store.specs.declared.Cell.TheVariants.{Pair, Atom}
use Rattle.store.specs.Cells.{cell_at, bytes_at}
use Rattle.store.specs.Nodes.{tree_at}
use Rattle.store.proofs.Trees.{tree_pair, tree_atom}
use Rattle.notation.specs.Texts.{is_one}

-- ---- the atom 1

pub one_pair : (f s : List ℕ) (n l r : ℕ) (q : Cell) → q ≡ Pair l r → q ≡ cell_at s n → false ≡ is_one (tree_at f s n)
unfolding is_one
one_pair f s n l r q ep eq = rw (tree_pair f s n l r (sym eq ∙ ep))

pub one_atom : (f s b : List ℕ) (n : ℕ) (q : Cell) (u : Bool) → u ≡ is_byte 1 b → q ≡ Atom → q ≡ cell_at s n → b ≡ bytes_at f s n → u ≡ is_one (tree_at f s n)
unfolding is_one
one_atom f s b n q u e ep eq eb = rw (tree_atom f s n (sym eq ∙ ep), ← eb) e
