-- What holds of every atom of a tree, and what bounds allow. Assumes nothing.
use Prim.Native.Nat.{ℕ, ◌≤◌}
use mathlib.Core.Path.{◌≡◌, refl}
use mathlib.Core.List.{List, [], ◌∷◌}
use mathlib.Core.Bool.{true}
use lib.Dec.{leb}
use lib.ListN.{length}
use native.Mathlib.Omega.{arith}
use Rattle.meaning.specs.Tree.{Tree, atom, pair, nil, byte}
use Rattle.meaning.specs.Limits.{atom_limit}
use Rattle.meaning.specs.Form.{Bounds, limits, needs_prefix, EveryAtom, Narrow, Writable}
use Rattle.meaning.proofs.Tests.{leb_yes, leb_true}

pub atoms_map : {P Q : List ℕ → Type 0} → ((b : List ℕ) → P b → Q b) → (t : Tree) → EveryAtom P t → EveryAtom Q t
unfolding EveryAtom
atoms_map f (atom b) h = f b h
atoms_map f (pair l r) h = (atoms_map f l h.0, atoms_map f r h.1)

pub narrow_nil : Narrow nil
unfolding Narrow
narrow_nil = omega arith

pub narrow_byte : (b : ℕ) → Narrow (byte b)
unfolding Narrow
narrow_byte b = omega arith

pub narrow_writable : (t : Tree) → Narrow t → Writable t
unfolding Narrow Writable
narrow_writable t h = atoms_map (λ b k. omega arith) t h

-- the bounds allow an atom of these bytes, if it needs a prefix (for any other the reader asks nothing)
unfoldable pub Fits : Bounds → List ℕ → Type 0
unfolding needs_prefix
Fits b bs = needs_prefix bs ≡ true → b.atom_fits (length bs) ≡ true

-- the bounds allow every number of units up to n
unfoldable pub UnitsFit : Bounds → ℕ → Type 0
UnitsFit b n = (m : ℕ) → m ≤ n → b.units_fit m ≡ true

-- within 01's limits the atoms that fit are the narrow ones
pub narrow_fits : (t : Tree) → Narrow t → EveryAtom (Fits limits) t
unfolding Narrow Fits
narrow_fits t h = atoms_map (λ b k _. leb_true (length b) atom_limit k) t h

pub fits_narrow : (t : Tree) → EveryAtom (Fits limits) t → Narrow t
unfolding Narrow Fits needs_prefix
fits_narrow t h = atoms_map go t h
  where
    go : (b : List ℕ) → (needs_prefix b ≡ true → leb (length b) atom_limit ≡ true) → length b ≤ atom_limit
    go [] k = omega arith
    go (x ∷ []) k = omega arith
    go (x ∷ y ∷ b) k = leb_yes _ _ (k refl)
