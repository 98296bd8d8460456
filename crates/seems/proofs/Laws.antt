-- What each call and each return of the two functions needs.
use mathlib.Core.Path.{◌≡◌, refl, sym, ◌∙◌, ap}
use mathlib.Core.List.{List}
use mathlib.Core.Bool.{Bool, true, false, ◌&&◌}
use Prim.Native.Nat.{ℕ, ◌<◌, ◌≤◌}
use native.Mathlib.Omega.{arith}
use lib.Dec.{eqb}
use Rattle.meaning.specs.Tree.{Tree, atom, pair}
use Rattle.meaning.specs.Constant.{seems_constant, seems_constant_tail}
use Rattle.store.specs.declared.Cell.{Cell}
use Rattle.store.specs.declared.Cell.TheVariants.{Pair, Atom}
use Rattle.store.specs.declared.Charges.{Charges}
use Rattle.store.specs.Cells.{cell_at, bytes_at, Room}
use Rattle.store.specs.Nodes.{tree_at}
use Rattle.store.specs.Store.{Ready, noted_at, noted_tail_at}
use Rattle.store.specs.Makers.{Answered}
use Rattle.store.proofs.Ready as ready
use Rattle.sexp.specs.Tests.{is_byte_tree, is_nil}

-- ---- on trees

op_one : (t r : Tree) → true ≡ is_byte_tree 1 t → true ≡ seems_constant (pair t r)
unfolding is_byte_tree seems_constant
op_one (atom o) r e = rw (← e, seems_constant)
op_one (pair a b) r e = let z : ◌≡◌ {A = ℕ} 0 1 = cc in absurd (omega arith)

op_eight : (t r : Tree) → false ≡ is_byte_tree 1 t → true ≡ is_byte_tree 8 t → false ≡ seems_constant (pair t r)
unfolding is_byte_tree seems_constant
op_eight (atom o) r e h = rw (← e, ← h, seems_constant)
op_eight (pair a b) r e h = let z : ◌≡◌ {A = ℕ} 0 1 = cc in absurd (omega arith)

op_other : (o : List ℕ) (r : Tree) → false ≡ is_byte_tree 1 (atom o) → false ≡ is_byte_tree 8 (atom o) → seems_constant_tail r ≡ seems_constant (pair (atom o) r)
unfolding is_byte_tree seems_constant
op_other o r e h = rw (← e, ← h, seems_constant)

op_pair : (a b r : Tree) → (seems_constant (pair a b) && seems_constant_tail r) ≡ seems_constant (pair (pair a b) r)
unfolding seems_constant
op_pair a b r = refl

tail_pair : (l r : Tree) → (seems_constant l && seems_constant_tail r) ≡ seems_constant_tail (pair l r)
unfolding seems_constant_tail
tail_pair l r = refl

nil_constant : (o : List ℕ) → is_nil (atom o) ≡ seems_constant (atom o)
unfolding is_nil seems_constant
nil_constant o = refl

nil_tail : (o : List ℕ) → is_nil (atom o) ≡ seems_constant_tail (atom o)
unfolding is_nil seems_constant_tail
nil_tail o = refl

-- ---- answers, one after the other

module _ {f : List ℕ} {c : Charges} where
  -- with no change
  pub plain : {s : List ℕ} {m : ℕ} {a b : Bool} → Ready f s c m → a ≡ b → Answered f s s c a b
  plain {s} rd e = record { answer = e; grown = ready.grown_none f s c rd.held }

  pub after : {s s₁ : List ℕ} {m : ℕ} {a x : Bool} → Answered f s s₁ c a x → Ready f s c m → Ready f s₁ c m
  after h rd = ready.grown_ready h.grown rd

  pub tree_after : {s s₁ : List ℕ} {m : ℕ} {a x : Bool} → Answered f s s₁ c a x → Ready f s c m → tree_at f s₁ m ≡ tree_at f s m
  tree_after h rd = ready.grown_tree h.grown rd

  -- the last of two answers is about a node that was there before the first
  pub back : (P : Tree → Bool) {s s₁ s₂ : List ℕ} {m : ℕ} {a b x : Bool} → Answered f s₁ s₂ c b (P (tree_at f s₁ m)) → Answered f s s₁ c a x → Ready f s c m → Answered f s s₂ c b (P (tree_at f s m))
  back P h g rd = record { answer = h.answer ∙ ap P (tree_after g rd); grown = ready.grown_both g.grown h.grown }

  pub after_two : {s s₁ s₂ : List ℕ} {m : ℕ} {a b x y : Bool} → Answered f s₁ s₂ c b y → Answered f s s₁ c a x → Ready f s c m → Ready f s₂ c m
  after_two h g rd = after h (after g rd)

  pub back_two : (P : Tree → Bool) {s s₁ s₂ s₃ : List ℕ} {m : ℕ} {a b d x y : Bool} → Answered f s₂ s₃ c d (P (tree_at f s₂ m)) → Answered f s₁ s₂ c b y → Answered f s s₁ c a x → Ready f s c m → Answered f s s₃ c d (P (tree_at f s m))
  back_two P h₂ h₁ h rd = back P (back P h₂ h₁ (after h rd)) h rd

-- ---- node m is a pair

module _ (f s : List ℕ) (c : Charges) (m l r : ℕ) (q : Cell) (ep : q ≡ Pair l r) (eq : q ≡ cell_at s m) (rd : Ready f s c m) where
  pub room_left : Room s l
  room_left = ready.room_left f s c m l r q ep eq (ready.room f s c m rd)

  pub below_left : (k : ℕ) → m ≡ k → l < k
  below_left k e = let z : l < m = ready.falls_left f s c m l r q ep eq in omega arith

  pub below_right : (k : ℕ) → m ≡ k → r < k
  below_right k e = let z : r < m = ready.falls_right f s c m l r q ep eq in omega arith

  rr : Ready f s c r
  rr = ready.ready_right f s c m l r q ep eq rd

  tree : tree_at f s m ≡ pair (tree_at f s l) (tree_at f s r)
  tree = ready.look_pair f s c m l r q ep eq

  -- what is remembered
  pub known : (k : ℕ) → k ≡ noted_at s m → 2 ≤ k → Answered f s s c (eqb k 3) (seems_constant (tree_at f s m))
  known k e h = plain rd (ready.known f s c m l r q ep eq rd k e h)

  pub knows_tail : (k : ℕ) → k ≡ noted_tail_at s m → 2 ≤ k → Answered f s s c (eqb k 3) (seems_constant_tail (tree_at f s m))
  knows_tail k e h = plain rd (ready.knows_tail f s c m l r q ep eq rd k e h)

  -- the operator is an atom
  module _ (b : Bool) (eb : b ≡ is_byte_tree 1 (tree_at f s l)) where
    pub one : b ≡ true → Answered f s s c true (seems_constant (tree_at f s m))
    one e = plain rd (rw tree (op_one (tree_at f s l) (tree_at f s r) (sym e ∙ eb)))

    pub eight : (d : Bool) → b ≡ false → d ≡ is_byte_tree 8 (tree_at f s l) → d ≡ true → Answered f s s c false (seems_constant (tree_at f s m))
    eight d e ed e' = plain rd (rw tree (op_eight (tree_at f s l) (tree_at f s r) (sym e ∙ eb) (sym e' ∙ ed)))

-- an atom
module _ (f s : List ℕ) (c : Charges) (m : ℕ) (q : Cell) (u : Bool) (eq : q ≡ cell_at s m) (ep : q ≡ Atom) (rd : Ready f s c m) (eu : u ≡ is_nil (tree_at f s m)) where
  pub atom_nil : Answered f s s c u (seems_constant (tree_at f s m))
  atom_nil = let e = ready.look_atom f s m q eq ep in plain rd (eu ∙ rw e (nil_constant (bytes_at f s m)))

  pub atom_nil_tail : Answered f s s c u (seems_constant_tail (tree_at f s m))
  atom_nil_tail = let e = ready.look_atom f s m q eq ep in plain rd (eu ∙ rw e (nil_tail (bytes_at f s m)))

-- ---- after calls: the latest call first

-- a cell that is some pair, for an arm that binds no parts or not both
pub record SomePair (q : Cell) : Type 0 where
  pub left : ℕ
  pub right : ℕ
  pub is : q ≡ Pair left right

pub some_pair : (q : Cell) (l r : ℕ) → q ≡ Pair l r → SomePair q
some_pair q l r e = record { left = l; right = r; is = e }

pub record LeftPair (q : Cell) (l : ℕ) : Type 0 where
  pub right : ℕ
  pub is : q ≡ Pair l right

pub left_pair : (q : Cell) (l r : ℕ) → q ≡ Pair l r → LeftPair q l
left_pair q l r e = record { right = r; is = e }

no_and : {a x : Bool} → a ≡ x → a ≡ false → (r : Bool) → false ≡ (x && r)
no_and h e r = rw (← h, e)

yes_and : {a x : Bool} → a ≡ x → a ≡ true → (r : Bool) → r ≡ (x && r)
yes_and h e r = rw (← h, e)

module _ {f s s₁ : List ℕ} {c : Charges} {m l : ℕ} {q : Cell} {a : Bool} where
  pub go_right : {r : ℕ} → Answered f s s₁ c a (seems_constant (tree_at f s l)) → q ≡ Pair l r → q ≡ cell_at s m → Ready f s c m → Ready f s₁ c r
  go_right {r} h ep eq rd = after h (rr f s c m l r q ep eq rd)

  -- the left part was asked, and is not
  pub ask_tail_no : Answered f s s₁ c a (seems_constant (tree_at f s l)) → a ≡ false → q ≡ cell_at s m → LeftPair q l → Ready f s c m → false ≡ seems_constant_tail (tree_at f s₁ m)
  ask_tail_no h e eq ep rd =
      let r : Tree = tree_at f s ep.right in
      rw (tree_after h rd, tree f s c m l ep.right q ep.is eq rd) (no_and h.answer e (seems_constant_tail r) ∙ tail_pair (tree_at f s l) r)

  pub ask_no : {p : Cell} → Answered f s s₁ c a (seems_constant (tree_at f s l)) → a ≡ false → q ≡ cell_at s m → LeftPair q l → p ≡ cell_at s l → SomePair p → Ready f s c m → false ≡ seems_constant (tree_at f s₁ m)
  ask_no {p} h e eq ep e₁ e₂ rd =
      let r : Tree = tree_at f s ep.right in
      let z = ready.look_pair f s c l e₂.left e₂.right p e₂.is e₁ in
      rw (tree_after h rd, tree f s c m l ep.right q ep.is eq rd, z) (no_and (h.answer ∙ ap seems_constant z) e (seems_constant_tail r) ∙ op_pair (tree_at f s e₂.left) (tree_at f s e₂.right) r)

  -- it is: then all goes by the right part
  module _ {s₂ : List ℕ} {u : Bool} {r : ℕ} where
    pub ask_tail_yes : Answered f s₁ s₂ c u (seems_constant_tail (tree_at f s₁ r)) → Answered f s s₁ c a (seems_constant (tree_at f s l)) → a ≡ true → q ≡ cell_at s m → q ≡ Pair l r → Ready f s c m → u ≡ seems_constant_tail (tree_at f s₂ m)
    ask_tail_yes g h e eq ep rd =
        let t : Answered f s s₂ c u (seems_constant_tail (tree_at f s r)) = back seems_constant_tail g h (rr f s c m l r q ep eq rd) in
        rw (tree_after t rd, tree f s c m l r q ep eq rd) (t.answer ∙ yes_and h.answer e (seems_constant_tail (tree_at f s r)) ∙ tail_pair (tree_at f s l) (tree_at f s r))

    pub ask_yes : {p : Cell} → Answered f s₁ s₂ c u (seems_constant_tail (tree_at f s₁ r)) → Answered f s s₁ c a (seems_constant (tree_at f s l)) → a ≡ true → q ≡ cell_at s m → q ≡ Pair l r → p ≡ cell_at s l → SomePair p → Ready f s c m → u ≡ seems_constant (tree_at f s₂ m)
    ask_yes {p} g h e eq ep e₁ e₂ rd =
        let t : Answered f s s₂ c u (seems_constant_tail (tree_at f s r)) = back seems_constant_tail g h (rr f s c m l r q ep eq rd) in
        let z = ready.look_pair f s c l e₂.left e₂.right p e₂.is e₁ in
        rw (tree_after t rd, tree f s c m l r q ep eq rd, z) (t.answer ∙ yes_and (h.answer ∙ ap seems_constant z) e (seems_constant_tail (tree_at f s r)) ∙ op_pair (tree_at f s e₂.left) (tree_at f s e₂.right) (tree_at f s r))

  -- the operator is an atom that passes
  pub ask_other : {r : ℕ} {p : Cell} {b d : Bool} → Answered f s s₁ c a (seems_constant_tail (tree_at f s r)) → q ≡ cell_at s m → q ≡ Pair l r → p ≡ cell_at s l → p ≡ Atom → b ≡ is_byte_tree 1 (tree_at f s l) → b ≡ false → d ≡ is_byte_tree 8 (tree_at f s l) → d ≡ false → Ready f s c m → a ≡ seems_constant (tree_at f s₁ m)
  ask_other {r} {p} h eq ep e₁ e₂ eb e ed e' rd =
      let z = ready.look_atom f s l p e₁ e₂ in
      rw (tree_after h rd, tree f s c m l r q ep eq rd, z) (h.answer ∙ op_other (bytes_at f s l) (tree_at f s r) (sym e ∙ eb ∙ ap (is_byte_tree 1) z) (sym e' ∙ ed ∙ ap (is_byte_tree 8) z))
