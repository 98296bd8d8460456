-- The head of an expression, and its argument list: the operator's table, and the count. Assumes nothing.
use Prim.Native.Nat.{ℕ, zero, suc, ◌+◌, ◌≤◌, ◌<◌}
use mathlib.Core.Path.{◌≡◌, refl, sym, ◌∙◌, ap}
use mathlib.Core.List.{List, [], ◌∷◌}
use mathlib.Core.Bool.{Bool, true, false}
use mathlib.Core.Option.{Option, none, some}
use lib.ListN.{length, get_or}
use native.Mathlib.Omega.{arith}
use Rattle.meaning.specs.Tree.{Tree, atom, pair, proper_list, is_empty}
use Rattle.meaning.specs.Operator.{Op, other, head_number, head_of, takes}
use Rattle.meaning.specs.Operator.{Head as Operator-as-Head}
use Rattle.store.specs.declared.Cell.{Cell}
use Rattle.store.specs.declared.Cell.TheVariants.{Pair, Atom}
use Rattle.store.specs.Cells.{Room, cell_at, bytes_at}
use Rattle.store.specs.Nodes.{tree_at}
use Rattle.store.proofs.Trees.{cell_below, tree_pair, tree_atom}
use borrow.Author.Tests.{ne_eqb}
use Rattle.sexp.specs.Tests.{is_nil}
use Rattle.evaluator.specs.declared.Operator.{Operator}
use Rattle.evaluator.specs.declared.Values.{Values}
use Rattle.evaluator.specs.Heads.{op_of, head_tree, accepted, items}
use Rattle.evaluator.specs.Values.{put_value}

-- ---- the table

pub head_is : (b : List ℕ) (x : ℕ) → get_or b 0 0 ≡ x → length b ≡ 1 → head_number x ≡ head_of b
unfolding head_of
head_is [] x e l = absurd (omega arith)
head_is (y ∷ []) x e l = ap head_number (sym e)
head_is (y ∷ z ∷ b) x e l = absurd (omega arith)

pub head_long : (b : List ℕ) → (length b ≡ 1 → ⊥) → other ≡ head_of b
unfolding head_of
head_long [] h = refl
head_long (y ∷ []) h = absurd (h refl)
head_long (y ∷ z ∷ b) h = refl

head_none : (x : ℕ) → (x ≡ 1 → ⊥) → (x ≡ 2 → ⊥) → (x ≡ 3 → ⊥) → (x ≡ 4 → ⊥) → (x ≡ 5 → ⊥) → (x ≡ 6 → ⊥) → (x ≡ 7 → ⊥) → (x ≡ 8 → ⊥) → (x ≡ 9 → ⊥) → other ≡ head_number x
unfolding head_number
head_none zero a b c d e f g h i = refl
head_none (suc zero) a b c d e f g h i = absurd (a refl)
head_none (suc (suc zero)) a b c d e f g h i = absurd (b refl)
head_none (suc (suc (suc zero))) a b c d e f g h i = absurd (c refl)
head_none (suc (suc (suc (suc zero)))) a b c d e f g h i = absurd (d refl)
head_none (suc (suc (suc (suc (suc zero))))) a b c d e f g h i = absurd (e refl)
head_none (suc (suc (suc (suc (suc (suc zero)))))) a b c d e f g h i = absurd (f refl)
head_none (suc (suc (suc (suc (suc (suc (suc zero))))))) a b c d e f g h i = absurd (g refl)
head_none (suc (suc (suc (suc (suc (suc (suc (suc zero)))))))) a b c d e f g h i = absurd (h refl)
head_none (suc (suc (suc (suc (suc (suc (suc (suc (suc zero))))))))) a b c d e f g h i = absurd (i refl)
head_none (suc (suc (suc (suc (suc (suc (suc (suc (suc (suc x)))))))))) a b c d e f g h i = refl

pub head_other : (b : List ℕ) → length b ≡ 1 → (get_or b 0 0 ≡ 1 → ⊥) → (get_or b 0 0 ≡ 2 → ⊥) → (get_or b 0 0 ≡ 3 → ⊥) → (get_or b 0 0 ≡ 4 → ⊥) → (get_or b 0 0 ≡ 5 → ⊥) → (get_or b 0 0 ≡ 6 → ⊥) → (get_or b 0 0 ≡ 7 → ⊥) → (get_or b 0 0 ≡ 8 → ⊥) → (get_or b 0 0 ≡ 9 → ⊥) → other ≡ head_of b
head_other bs l a b c d e f g h i = head_none (get_or bs 0 0) a b c d e f g h i ∙ head_is bs (get_or bs 0 0) refl l

pub head_pair : (f s : List ℕ) (n l r : ℕ) (q : Cell) → q ≡ Pair l r → q ≡ cell_at s n → other ≡ head_tree (tree_at f s n)
unfolding head_tree
head_pair f s n l r q ep eq = rw (tree_pair f s n l r (sym eq ∙ ep))

pub head_atom : (f s z : List ℕ) (n : ℕ) (q : Cell) (h : Operator-as-Head) → h ≡ head_of z → z ≡ bytes_at f s n → q ≡ cell_at s n → q ≡ Atom → h ≡ head_tree (tree_at f s n)
unfolding head_tree
head_atom f s z n q h e ez eq ep = rw (tree_atom f s n (sym eq ∙ ep)) (e ∙ ap head_of ez)

-- how many arguments: by the operator
pub takes_as : (o x : Operator) (k : ℕ) → o ≡ x → takes (op_of x) k ≡ takes (op_of o) k
takes_as o x k e = rw e

-- ---- the argument list

-- with k elements before it
unfoldable pub counted : ℕ → Op → Option (List Tree) → Bool
counted k o none = false
counted k o (some es) = takes o (k + length es)

-- what holds at the loop's head
pub record Counting (f s : List ℕ) (o : Operator) (list p k : ℕ) : Type 0 where
  pub room : Room s p
  pub upto : p + k ≤ list
  pub whole : counted k (op_of o) (proper_list (tree_at f s p)) ≡ accepted (op_of o) (proper_list (tree_at f s list))

pub count_starts : (f s : List ℕ) (o : Operator) (list : ℕ) → Room s list → Counting f s o list list 0
unfolding counted accepted
count_starts f s o list h = record { room = h; upto = omega arith; whole = go (proper_list (tree_at f s list)) }
  where
    go : (l : Option (List Tree)) → counted 0 (op_of o) l ≡ accepted (op_of o) l
    go none = refl
    go (some es) = let z : 0 + length es ≡ length es = omega arith in ap (takes (op_of o)) z

module _ (f s : List ℕ) (o : Operator) (list p k : ℕ) (i : Counting f s o list p k) (q : Cell) where
  pub count_room : Room s p
  count_room = i.room

  module _ (l r : ℕ) (ep : q ≡ Pair l r) (eq : q ≡ cell_at s p) where
    pub count_falls : r < p
    count_falls = (cell_below s p l r (sym eq ∙ ep)).fall_right

    one_more : (x : Tree) (t : Tree) → counted (k + 1) (op_of o) (proper_list t) ≡ counted k (op_of o) (proper_list (pair x t))
    unfolding counted proper_list
    one_more x t = go (proper_list t)
      where
        go : (es : Option (List Tree)) → counted (k + 1) (op_of o) es ≡ counted k (op_of o) (elim es [ none ↦ none | some ts ↦ some (x ∷ ts) ])
        go none = refl
        go (some ts) = let e : k + 1 + length ts ≡ k + suc (length ts) = omega arith in ap (takes (op_of o)) e

    pub count_again : Counting f s o list r (k + 1)
    count_again =
        let h : r < p = count_falls in
        let z : p + 15 ≤ 65536 = i.room.node in
        let u : p + k ≤ list = i.upto in
        record {
          room = record { node = omega arith; size = i.room.size };
          upto = omega arith;
          whole = one_more (tree_at f s l) (tree_at f s r) ∙ ap (λ (t : Tree). counted k (op_of o) (proper_list t)) (sym (tree_pair f s p l r (sym eq ∙ ep))) ∙ i.whole;
        }

  module _ (b : Bool) (e : b ≡ is_nil (tree_at f s p)) where
    pub count_ends : (c : Bool) → c ≡ takes (op_of o) k → b ≡ true → c ≡ accepted (op_of o) (proper_list (tree_at f s list))
    unfolding counted is_nil is_empty proper_list
    count_ends c ec y = ec ∙ go (tree_at f s p) (sym e ∙ y) ∙ i.whole
      where
        go : (t : Tree) → is_nil t ≡ true → takes (op_of o) k ≡ counted k (op_of o) (proper_list t)
        go (atom []) h = let z : k ≡ k + 0 = omega arith in ap (takes (op_of o)) z
        go (atom (x ∷ xs)) h = cc
        go (pair l r) h = cc

    pub count_improper : q ≡ cell_at s p → q ≡ Atom → b ≡ false → false ≡ accepted (op_of o) (proper_list (tree_at f s list))
    unfolding counted is_nil is_empty proper_list
    count_improper eq ep n = go (bytes_at f s p) (tree_atom f s p (sym eq ∙ ep)) ∙ i.whole
      where
        go : (x : List ℕ) → tree_at f s p ≡ atom x → false ≡ counted k (op_of o) (proper_list (tree_at f s p))
        go [] h = let z : true ≡ false = ap is_nil (sym h) ∙ sym e ∙ n in cc
        go (x ∷ xs) h = rw h

-- the elements of a list that ends in nil
pub items_are : (t : Tree) (es : List Tree) → proper_list t ≡ some es → items t ≡ es
unfolding proper_list items
items_are (atom []) es h = cc
items_are (atom (b ∷ bs)) es h = cc
items_are (pair l r) es h = go (proper_list r) (items_are r) h
  where
    go : (o : Option (List Tree)) → ((ts : List Tree) → o ≡ some ts → items r ≡ ts) → elim o [ none ↦ none | some ts ↦ some (l ∷ ts) ] ≡ some es → l ∷ items r ≡ es
    go none ih k = cc
    go (some ts) ih k = let e : l ∷ ts ≡ es = cc in ap (l ∷◌) (ih ts refl) ∙ e

-- ---- the first three values

module _ (v : Values) (k n : ℕ) where
  pub with_0 : k ≡ 0 → record { a = n; b = v.b; c = v.c } ≡ put_value v k n
  with_0 e = rw e

  pub with_1 : k ≡ 1 → record { a = v.a; b = n; c = v.c } ≡ put_value v k n
  with_1 e = rw e

  pub with_2 : k ≡ 2 → record { a = v.a; b = v.b; c = n } ≡ put_value v k n
  with_2 e = rw e

  pub with_3 : (k ≡ 0 → ⊥) → (k ≡ 1 → ⊥) → (k ≡ 2 → ⊥) → v ≡ put_value v k n
  with_3 p q r = rw (ne_eqb k 0 p, ne_eqb k 1 q, ne_eqb k 2 r)
