-- A smaller tree is another tree. Assumes nothing.
use Prim.Native.Nat.{ℕ, suc, ◌+◌, ◌<◌}
use mathlib.Core.Path.{◌≡◌, ap}
use mathlib.Core.Bool.{false}
use native.Mathlib.Omega.{arith}
use Rattle.meaning.specs.Tree.{Tree, atom, pair, equal_to}
use Rattle.meaning.proofs.Tests.{on_bool}
use Rattle.meaning.proofs.TreeLaws.{equal_to_sound}

-- how many pairs a tree has
unfoldable pub size : Tree → ℕ
size (atom b) = 0
size (pair l r) = suc (size l + size r)

pub smaller_differs : (t u : Tree) → size u < size t → equal_to t u ≡ false
smaller_differs t u l = on_bool (equal_to t u) (λ e. let i : size t ≡ size u = ap size (equal_to_sound t u e) in absurd (omega arith)) (λ e. e)
