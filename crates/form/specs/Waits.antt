-- The pairs that wait while a tree is read: each is its left part's node, or 0xffff while that part is still read.
use Rattle.std.specs.Prelude.{ℕ, zero, suc, ◌-◌, ◌≤◌, ◌<◌, ◌≡◌, List, true, false, length, get_or, eqb, Result, Ok, Err}
use Rattle.refusals.specs.declared.Refusal.{Refusal}
use Rattle.meaning.specs.Tree.{Tree, pair}
use Rattle.meaning.specs.Limits.{pair_cost}
use Rattle.meaning.specs.Meter.{M, ◌>>=◌, ◌>>◌, give}
use Rattle.meaning.specs.Form.{Reading, limits, spend}
use Rattle.store.specs.declared.Charges.{Charges}
use Rattle.store.specs.Nodes.{tree_at}
use Rattle.store.specs.Store.{Ready}
use Rattle.store.specs.Makers.{Grown}
use Rattle.form.specs.declared.Closed.{Closed}
use Rattle.form.specs.Spans.{next_tree, Stops}

-- a pair, charged
unfoldable pub paired : Tree → Tree → M Reading Tree
unfolding spend give ◌>>◌
paired l r = spend limits pair_cost >> give (pair l r)

-- the right part of a pair whose left part is l, and the pair
unfoldable pub right_of : Tree → M Reading Tree
unfolding next_tree paired ◌>>=◌
right_of l = next_tree >>= λ r. paired l r

-- what a pair that waits does with t, once t is whole
unfoldable pub taken : List ℕ → List ℕ → ℕ → Tree → M Reading Tree
unfolding right_of paired
taken f s v = λ t. elim (eqb v 0xffff) [ true ↦ right_of t | false ↦ paired (tree_at f s v) t ]

-- t is whole, and the first k entries of w wait for it, the last first
unfoldable pub resume : List ℕ → List ℕ → List ℕ → ℕ → Tree → M Reading Tree
unfolding taken give ◌>>=◌
resume f s w zero = λ t. give t
resume f s w (suc k) = λ t. taken f s (get_or w k 0) t >>= resume f s w k

-- their left parts are nodes
pub record Waits (f s w : List ℕ) (c : Charges) (k : ℕ) : Type 0 where
  pub within : k ≤ length w
  pub nodes : (i : ℕ) → i < k → (get_or w i 0 ≡ 0xffff → ⊥) → Ready f s c (get_or w i 0)

-- what is left to do with the node q comes to what is left to do with p, whose pair has no left part yet
pub record ClosedTo (f s s' w : List ℕ) (k q : ℕ) (c c' : Charges) (p j : ℕ) : Type 0 where
  pub fewer : j ≤ k
  pub opened : 0 < j → get_or w (j - 1) 0 ≡ 0xffff
  pub grown : Grown f s s' c c'
  pub ready : Ready f s' c' p
  pub free : c'.free ≡ c.free
  pub is : (l : List ℕ) → resume f s w k (tree_at f s q) (record { left = l; units = c.units }) ≡ resume f s' w j (tree_at f s' p) (record { left = l; units = c'.units })

-- it is refused, whatever bytes are left
pub record ClosedStops (f s w : List ℕ) (k q : ℕ) (c : Charges) (n : Refusal) : Type 0 where
  pub is : (l : List ℕ) → Stops (resume f s w k (tree_at f s q) (record { left = l; units = c.units })) n

unfoldable pub ClosedOk : List ℕ → List ℕ → List ℕ → List ℕ → ℕ → ℕ → Charges → Result Closed Refusal → Type 0
ClosedOk f s s' w k q c (Ok z) = ClosedTo f s s' w k q c z.ch z.node z.left
ClosedOk f s s' w k q c (Err n) = ClosedStops f s w k q c n
