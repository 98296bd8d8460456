-- Equality of nodes: the lowest known same node, joining, and what each call and return of equal_node needs.
use mathlib.Core.Path.{◌≡◌, refl, sym, ◌∙◌, ap}
use mathlib.Core.List.{List, [], ◌∷◌}
use mathlib.Core.Bool.{Bool, true, false, not, ◌&&◌}
use Prim.Native.Nat.{ℕ, ◌+◌, ◌<◌, ◌≤◌, min, max}
use native.Mathlib.Omega.{arith}
use lib.Dec.{eqb}
use borrow.Author.Tests.{eq-eqb, not-true}
use Rattle.std.specs.Str.{bytes_eq}
use Rattle.meaning.specs.Tree.{Tree, atom, pair, same_bytes, equal_to}
use Rattle.meaning.proofs.TreeLaws.{equal_to_sound}
use Rattle.store.specs.declared.Cell.{Cell}
use Rattle.store.specs.declared.Cell.TheVariants.{Pair, Atom}
use Rattle.store.specs.declared.Charges.{Charges}
use Rattle.store.specs.Cells.{cell_at, bytes_at, same_at, Room}
use Rattle.store.specs.Nodes.{tree_at, print_of}
use Rattle.store.specs.Store.{Ready}
use Rattle.store.specs.Makers.{Grown, Answered, Joins}
use Rattle.store.proofs.Ready.{Same, same, room, ready_left, ready_right, grown_none, grown_both, grown_ready, grown_tree}
use Rattle.store.proofs.Places.{split}
use Rattle.store.proofs.Trees.{cell_below, tree_pair, tree_atom}
use Rattle.sexp.specs.declared.Compared.{Compared}
use Rattle.sexp.specs.declared.Compared.TheVariants.{Told, Parts}
use Rattle.sexp.specs.Canon.{Canon, Alike, BothPairs, of_cells, compared}

-- ---- bytes

-- what std's `==` says of them
pub bytes_are : (x y : List ℕ) → bytes_eq x y ≡ same_bytes x y
unfolding same_bytes
bytes_are [] [] = refl
bytes_are [] (y ∷ ys) = refl
bytes_are (x ∷ xs) [] = refl
bytes_are (x ∷ xs) (y ∷ ys) = ap (λ (b : Bool). eqb x y && b) (bytes_are xs ys)

bytes_refl : (x : List ℕ) → same_bytes x x ≡ true
unfolding same_bytes
bytes_refl [] = refl
bytes_refl (x ∷ xs) = rw (eq-eqb x x refl) (bytes_refl xs)

pub equal_refl : (t : Tree) → equal_to t t ≡ true
unfolding equal_to
equal_refl (atom b) = bytes_refl b
equal_refl (pair l r) = rw (equal_refl l) (equal_refl r)

-- ---- the lowest known same node

same_ready : {f s : List ℕ} {c : Charges} {n m : ℕ} → Same f s n m → Ready f s c n → Ready f s c m
same_ready {f} {s} {c} {n} {m} v h = let o : n < c.end = h.old in let b : m ≤ n = v.below in record { held = h.held; node = v.node; old = omega arith }

pub same_room : (f s : List ℕ) (c : Charges) (n m : ℕ) → Same f s n m → Ready f s c n → Room s m
same_room f s c n m v h = room f s c m (same_ready v h)

pub same_turn : (f s : List ℕ) (c : Charges) (n m x : ℕ) → Same f s n m → x ≡ same_at s m → Ready f s c n → Same f s n x
same_turn f s c n m x v e h =
    let w : Same f s m x = same f s c m x e (same_ready v h) in
    let o : m ≤ n = v.below in
    let p : x ≤ m = w.below in
    record { node = w.node; below = omega arith; tree = w.tree ∙ v.tree }

-- ---- joining

-- the higher one remembers the lower
pub join_ordered : (f s : List ℕ) (c : Charges) (a b : ℕ) → Alike f s c a b → Joins f s c (max a b) (min a b)
join_ordered f s c a b k =
    split a b
    (λ o. let h : max a b ≡ b = omega arith in let l : min a b ≡ a = omega arith in
    rw (h, l) (record { upper = k.other; lower = k.one; below = omega arith; is_pair = k.other_pair; tree = k.tree }))
    (λ o. let h : max a b ≡ a = omega arith in let l : min a b ≡ b = omega arith in
    rw (h, l) (record { upper = k.one; lower = k.other; below = o; is_pair = k.one_pair; tree = sym k.tree }))

-- ---- equal_node: the lowest nodes a and b that are known to be the same as x and y

module _ {f s : List ℕ} {c : Charges} {x y a b : ℕ} (ca : Canon f s c x a) (cb : Canon f s c y b) where
  -- an answer about a and b is one about x and y
  pub from_canon : (t : List ℕ) (u : Bool) → Answered f s t c u (equal_to (tree_at f s a) (tree_at f s b)) → Answered f s t c u (equal_to (tree_at f s x) (tree_at f s y))
  from_canon t u h = rw (← ca.tree, ← cb.tree) h

  pub equal_same : a ≡ b → Answered f s s c true (equal_to (tree_at f s x) (tree_at f s y))
  equal_same e = from_canon s true (record { answer = rw e (sym (equal_refl (tree_at f s b))); grown = grown_none f s c ca.ready.held })

-- ---- compare_records: two nodes, and what was looked up there

module _ (f s : List ℕ) (a b : ℕ) (p q : Cell) (ep : p ≡ cell_at s a) (eq : q ≡ cell_at s b) where
  pub told_pair_atom : (l r : ℕ) → p ≡ Pair l r → q ≡ Atom → Told false ≡ compared f s a b
  unfolding compared
  told_pair_atom l r pp pq = rw (← ep, ← eq, pp, pq)

  pub told_atom_pair : (l r : ℕ) → p ≡ Atom → q ≡ Pair l r → Told false ≡ compared f s a b
  unfolding compared
  told_atom_pair l r pp pq = rw (← ep, ← eq, pp, pq)

  pub told_atoms : (u : Bool) → u ≡ same_bytes (bytes_at f s a) (bytes_at f s b) → p ≡ Atom → q ≡ Atom → Told u ≡ compared f s a b
  unfolding compared
  told_atoms u e pp pq = rw (← ep, ← eq, pp, pq, e)

  pub told_parts : (l r m n : ℕ) → p ≡ Pair l r → q ≡ Pair m n → Parts l r m n ≡ compared f s a b
  unfolding compared
  told_parts l r m n pp pq = rw (← ep, ← eq, pp, pq)

-- ---- what the records tell is right

module _ (f s : List ℕ) (a b : ℕ) where
  pub told_equal : (u : Bool) → compared f s a b ≡ Told u → u ≡ equal_to (tree_at f s a) (tree_at f s b)
  unfolding compared equal_to
  told_equal u e = go (cell_at s a) (cell_at s b) refl refl e
    where
      go : (p q : Cell) → cell_at s a ≡ p → cell_at s b ≡ q → of_cells (same_bytes (bytes_at f s a) (bytes_at f s b)) p q ≡ Told u → u ≡ equal_to (tree_at f s a) (tree_at f s b)
      go (Pair l r) (Pair m n) ep eq e = cc
      go (Pair l r) Atom ep eq e = rw (tree_pair f s a l r ep, tree_atom f s b eq) (cc)
      go Atom (Pair m n) ep eq e = rw (tree_atom f s a ep, tree_pair f s b m n eq) (cc)
      go Atom Atom ep eq e = rw (tree_atom f s a ep, tree_atom f s b eq) (cc)

  pub parts_pairs : (l r m n : ℕ) → compared f s a b ≡ Parts l r m n → BothPairs s a b l r m n
  unfolding compared
  parts_pairs l r m n e = go (cell_at s a) (cell_at s b) refl refl e
    where
      go : (p q : Cell) → cell_at s a ≡ p → cell_at s b ≡ q → of_cells (same_bytes (bytes_at f s a) (bytes_at f s b)) p q ≡ Parts l r m n → BothPairs s a b l r m n
      go (Pair l₁ r₁) (Pair m₁ n₁) ep eq e = record { one = ep ∙ cc; other = eq ∙ cc }
      go (Pair l₁ r₁) Atom ep eq e = record { one = cc; other = cc }
      go Atom (Pair m₁ n₁) ep eq e = record { one = cc; other = cc }
      go Atom Atom ep eq e = record { one = cc; other = cc }

-- ---- equal_records

pair_not_atom : (l r : Tree) (b : List ℕ) → pair l r ≡ atom b → ⊥
pair_not_atom l r b e = let z : ◌≡◌ {A = ℕ} 0 1 = cc in omega arith

pub told : (f s : List ℕ) (c : Charges) (a b : ℕ) (z : Compared) (u : Bool) → z ≡ Told u → z ≡ compared f s a b → Ready f s c a → Answered f s s c u (equal_to (tree_at f s a) (tree_at f s b))
told f s c a b z u e k ra = record { answer = told_equal f s a b u (sym k ∙ e); grown = grown_none f s c ra.held }

-- trees whose fingerprints differ
pub prints_tell : (f s : List ℕ) (c : Charges) (a b : ℕ) (u : Bool) → u ≡ not (eqb (print_of (tree_at f s a)) (print_of (tree_at f s b))) → u ≡ true → Ready f s c a → Answered f s s c false (equal_to (tree_at f s a) (tree_at f s b))
prints_tell f s c a b u eu o ra = record { answer = go (equal_to (tree_at f s a) (tree_at f s b)) refl; grown = grown_none f s c ra.held }
  where
    n : eqb (print_of (tree_at f s a)) (print_of (tree_at f s b)) ≡ false
    n = not-true _ (sym eu ∙ o)

    go : (v : Bool) → equal_to (tree_at f s a) (tree_at f s b) ≡ v → false ≡ v
    go true e =
        let p : eqb (print_of (tree_at f s a)) (print_of (tree_at f s b)) ≡ true = eq-eqb _ _ (ap print_of (equal_to_sound (tree_at f s a) (tree_at f s b) e)) in
        sym n ∙ p
    go false e = refl

module _ (f s : List ℕ) (a b l r m n : ℕ) (z : Compared) (e : z ≡ Parts l r m n) (k : z ≡ compared f s a b) where
  pairs : BothPairs s a b l r m n
  pairs = parts_pairs f s a b l r m n (sym k ∙ e)

  pub left_falls : (t : ℕ) → a + a ≡ t → l + l + 1 < t
  left_falls t et = let o : l < a = (cell_below s a l r pairs.one).fall_left in omega arith

  pub right_falls : (t : ℕ) → a + a ≡ t → r + r + 1 < t
  right_falls t et = let o : r < a = (cell_below s a l r pairs.one).fall_right in omega arith

  module _ (c : Charges) (ra : Ready f s c a) (rb : Ready f s c b) where
    pub left_one : Ready f s c l
    left_one = ready_left f s c a l r (cell_at s a) pairs.one refl ra

    pub left_other : Ready f s c m
    left_other = ready_left f s c b m n (cell_at s b) pairs.other refl rb

    tree_a : tree_at f s a ≡ pair (tree_at f s l) (tree_at f s r)
    tree_a = tree_pair f s a l r pairs.one

    tree_b : tree_at f s b ≡ pair (tree_at f s m) (tree_at f s n)
    tree_b = tree_pair f s b m n pairs.other

    right_a : Ready f s c r
    right_a = ready_right f s c a l r (cell_at s a) pairs.one refl ra

    right_b : Ready f s c n
    right_b = ready_right f s c b m n (cell_at s b) pairs.other refl rb

    -- after the lefts were compared
    module _ (t : List ℕ) (u : Bool) (h : Answered f s t c u (equal_to (tree_at f s l) (tree_at f s m))) where
      pub lefts_differ : u ≡ false → Answered f s t c false (equal_to (tree_at f s a) (tree_at f s b))
      unfolding equal_to
      lefts_differ o = record { answer = rw (tree_a, tree_b, ← h.answer, o); grown = h.grown }

      pub right_asks : Ready f t c r × Ready f t c n
      right_asks = (grown_ready h.grown right_a, grown_ready h.grown right_b)

      -- after the rights were compared
      module _ (o : u ≡ true) (t₂ : List ℕ) (v : Bool) (d : Answered f t t₂ c v (equal_to (tree_at f t r) (tree_at f t n))) where
        both : Grown f s t₂ c c
        both = grown_both h.grown d.grown

        rights : v ≡ equal_to (tree_at f s r) (tree_at f s n)
        rights =
            let er : tree_at f t r ≡ tree_at f s r = grown_tree h.grown right_a in
            let en : tree_at f t n ≡ tree_at f s n = grown_tree h.grown right_b in
            d.answer ∙ rw (er, en)

        value : equal_to (tree_at f s a) (tree_at f s b) ≡ v
        unfolding equal_to
        value = rw (tree_a, tree_b, ← h.answer, o) (sym rights)

        pub rights_differ : v ≡ false → Answered f s t₂ c false (equal_to (tree_at f s a) (tree_at f s b))
        rights_differ x = record { answer = sym (value ∙ x); grown = both }

        pub join_alike : v ≡ true → Alike f t₂ c a b
        join_alike x =
            let ea : tree_at f t₂ a ≡ tree_at f s a = grown_tree both ra in
            let eb : tree_at f t₂ b ≡ tree_at f s b = grown_tree both rb in
            record {
              one = grown_ready both ra;
              other = grown_ready both rb;
              one_pair = λ y. pair_not_atom (tree_at f s l) (tree_at f s r) (bytes_at f t₂ a) (sym tree_a ∙ sym ea ∙ tree_atom f t₂ a y);
              other_pair = λ y. pair_not_atom (tree_at f s m) (tree_at f s n) (bytes_at f t₂ b) (sym tree_b ∙ sym eb ∙ tree_atom f t₂ b y);
              tree = ea ∙ equal_to_sound (tree_at f s a) (tree_at f s b) (value ∙ x) ∙ sym eb;
            }

        pub joined_equal : (t₃ : List ℕ) → Grown f t₂ t₃ c c → v ≡ true → Answered f s t₃ c true (equal_to (tree_at f s a) (tree_at f s b))
        joined_equal t₃ g x = record { answer = sym (value ∙ x); grown = grown_both both g }
