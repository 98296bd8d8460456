-- Laws of treeAt: what a node stands for, by its cell; and that it goes by the cells of nodes only.
use Rattle.std.proofs.Common.{◌≡◌, ℕ, zero, suc, ◌+◌, ◌<◌, Bool, true, false, eqb, ltb, List, refl, ap₂, arith, ltb-true, eqb-true}
use Rattle.store.specs.declared.Cell.{Cell}
use Rattle.store.specs.declared.Cell.TheVariants.{Pair, Atom}
use Rattle.store.specs.Cells.{num16, kind_at, cell_at, bytes_at, pick}
use Rattle.meaning.specs.Tree.{Tree, atom, pair}
use Rattle.store.specs.Nodes.{grow, tree_to, tree_at}

pub record IsPair (s : List ℕ) (n l r : ℕ) : Type 0 where
  pub kind : kind_at s n ≡ 2
  pub fall_left : l < n
  pub fall_right : r < n

-- a pair's parts stand below it
pub cell_below : (s : List ℕ) (n l r : ℕ) → cell_at s n ≡ Pair l r → IsPair s n l r
unfolding cell_at
cell_below s n l r e = go (eqb (kind_at s n) 2) (ltb (num16 s (n + 1)) n) (ltb (num16 s (n + 3)) n) refl refl refl e
  where
    go : (a b c : Bool) → eqb (kind_at s n) 2 ≡ a → ltb (num16 s (n + 1)) n ≡ b → ltb (num16 s (n + 3)) n ≡ c → pick a (pick b (pick c (Pair (num16 s (n + 1)) (num16 s (n + 3))) Atom) Atom) Atom ≡ Pair l r → IsPair s n l r
    go true true true ea eb ec e =
        let el : num16 s (n + 1) ≡ l = cc in
        let er : num16 s (n + 3) ≡ r = cc in
        record { kind = eqb-true (kind_at s n) 2 ea; fall_left = omega (arith, ltb-true (num16 s (n + 1)) n eb); fall_right = omega (arith, ltb-true (num16 s (n + 3)) n ec) }
    go true true false ea eb ec e = let z : ◌≡◌ {A = ℕ} 0 1 = cc in absurd (omega arith)
    go true false c ea eb ec e = let z : ◌≡◌ {A = ℕ} 0 1 = cc in absurd (omega arith)
    go false b c ea eb ec e = let z : ◌≡◌ {A = ℕ} 0 1 = cc in absurd (omega arith)

-- a cell goes by its kind and two numbers
pub cell_cong : (s t : List ℕ) (n : ℕ) → kind_at t n ≡ kind_at s n → num16 t (n + 1) ≡ num16 s (n + 1) → num16 t (n + 3) ≡ num16 s (n + 3) → cell_at t n ≡ cell_at s n
unfolding cell_at
cell_cong s t n a b c = rw (a, b, c)

grow_agree : (s : List ℕ) (n : ℕ) (b : List ℕ) (p q : ℕ → Tree) (a : Cell) → cell_at s n ≡ a → ((l r : ℕ) → cell_at s n ≡ Pair l r → (p l ≡ q l) × (p r ≡ q r)) → grow a b p ≡ grow a b q
grow_agree s n b p q (Pair l r) e h = let w = h l r e in ap₂ pair w.0 w.1
grow_agree s n b p q Atom e h = refl

-- P: which numbers are nodes. Two stores that agree on the nodes give the same trees, at any fuel that is enough
module _ (f s t : List ℕ) (P : ℕ → Type 0)
    (parts : (i l r : ℕ) → P i → cell_at s i ≡ Pair l r → P l × P r)
    (ec : (i : ℕ) → P i → cell_at t i ≡ cell_at s i) (eb : (i : ℕ) → P i → bytes_at f t i ≡ bytes_at f s i) where
  pub agree : (j k n : ℕ) → P n → n < j → n < k → tree_to j f t n ≡ tree_to k f s n
  unfolding tree_to
  agree zero k n p hj hk = absurd (omega arith)
  agree (suc j) zero n p hj hk = absurd (omega arith)
  agree (suc j) (suc k) n p hj hk =
      rw (ec n p, eb n p)
      (grow_agree s n (bytes_at f s n) (tree_to j f t) (tree_to k f s) (cell_at s n) refl
      (λ l r e. let w = parts n l r p e in let b = cell_below s n l r e in (agree j k l w.0 (omega arith) (omega arith), agree j k r w.1 (omega arith) (omega arith))))

  pub frame : (n : ℕ) → P n → tree_at f t n ≡ tree_at f s n
  unfolding tree_at
  frame n p = agree (suc n) (suc n) n p (omega arith) (omega arith)

-- any fuel above n is enough
pub fuel : (f s : List ℕ) (k n : ℕ) → n < k → tree_to k f s n ≡ tree_at f s n
unfolding tree_at
fuel f s k n h = agree f s s (λ i. ℕ) (λ i l r p e. (0, 0)) (λ i p. refl) (λ i p. refl) k (suc n) n 0 (omega arith) (omega arith)

-- what a node stands for, by its cell
pub tree_pair : (f s : List ℕ) (n l r : ℕ) → cell_at s n ≡ Pair l r → tree_at f s n ≡ pair (tree_at f s l) (tree_at f s r)
unfolding tree_at tree_to
tree_pair f s n l r e = let w = cell_below s n l r e in rw e (ap₂ pair (fuel f s n l w.fall_left) (fuel f s n r w.fall_right))

pub tree_atom : (f s : List ℕ) (n : ℕ) → cell_at s n ≡ Atom → tree_at f s n ≡ atom (bytes_at f s n)
unfolding tree_at tree_to
tree_atom f s n e = rw e
