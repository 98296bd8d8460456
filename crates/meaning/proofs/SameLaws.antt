-- A tree is equal to itself, so trees that are found not equal differ. Assumes nothing.
use Prim.Native.Nat.{ℕ}
use mathlib.Core.Path.{◌≡◌, refl, sym, ◌∙◌, ap, ap₂}
use mathlib.Core.List.{List, [], ◌∷◌}
use mathlib.Core.Bool.{Bool, true, false, ◌&&◌}
use lib.Dec.{T, eqb, eqb_refl}
use Rattle.meaning.specs.Tree.{Tree, atom, pair, same_bytes, equal_to}
use Rattle.meaning.proofs.Tests.{not_true}

T_true : (b : Bool) → T b → b ≡ true
T_true true t = refl
T_true false t = absurd t

pub same_bytes_same : (a : List ℕ) → same_bytes a a ≡ true
unfolding same_bytes
same_bytes_same [] = refl
same_bytes_same (x ∷ xs) = ap₂ ◌&&◌ (T_true (eqb x x) (eqb_refl x)) (same_bytes_same xs)

pub equal_to_same : (t : Tree) → equal_to t t ≡ true
unfolding equal_to
equal_to_same (atom a) = same_bytes_same a
equal_to_same (pair l r) = ap₂ ◌&&◌ (equal_to_same l) (equal_to_same r)

pub equal_to_no : (t u : Tree) → equal_to t u ≡ false → ¬ (t ≡ u)
equal_to_no t u h e = not_true (sym (equal_to_same t) ∙ ap (equal_to t) e ∙ h)
