-- Bindings: what a growing store keeps of them, and what get and insert answer.
use Rattle.std.specs.Prelude.{Some, None}
use mathlib.Core.Path.{◌≡◌, refl, sym, ◌∙◌}
use mathlib.Core.List.{List, [], ◌∷◌}
use mathlib.Core.Bool.{Bool, true, false}
use mathlib.Core.Option.{none, some}
use Prim.Native.Nat.{ℕ, zero, suc, ◌≤◌}
use native.Mathlib.Omega.{arith}
use lib.ListN.{take}
use borrow.Author.Tests.{eq-eqb, ne_eqb}
use Rattle.meaning.specs.Tree.{atom, same_bytes}
use Rattle.meaning.specs.Match as meaning
use Rattle.store.specs.declared.Cell.{Cell}
use Rattle.store.specs.declared.Cell.TheVariants.{Pair, Atom}
use Rattle.store.specs.declared.Charges.{Charges}
use Rattle.store.specs.Cells.{cell_at, bytes_at, Room}
use Rattle.store.specs.Nodes.{tree_at}
use Rattle.store.specs.Store.{Held, Ready}
use Rattle.store.specs.Makers.{Grown}
use Rattle.store.proofs.Ready as ready
use Rattle.store.proofs.Trees.{cell_below, tree_pair, tree_atom}
use Rattle.pattern.specs.declared.Bindings.{Bindings}
use Rattle.pattern.specs.declared.Match.TheVariants.{Matched, TooManyNames}
use Rattle.pattern.specs.Bound.{binding_at, bindings_at, Named, Bound, no_bindings, inserted, match_at, BoundIn, got_at, GotIn, GotOk}

-- ---- names

pub named_room : (f s : List ℕ) (c : Charges) (n : ℕ) → Named f s c n → Room s n
named_room f s c n h = ready.room f s c n h.ready

pub name_tree : {f s : List ℕ} {c : Charges} {n : ℕ} → Named f s c n → tree_at f s n ≡ atom (bytes_at f s n)
name_tree {f} {s} {c} {n} h = tree_atom f s n h.is_atom

-- what stands for an atom is one
pub atom_cell : (f s : List ℕ) (n : ℕ) (b : List ℕ) → tree_at f s n ≡ atom b → cell_at s n ≡ Atom
atom_cell f s n b e = go (cell_at s n) refl
  where
    go : (q : Cell) → cell_at s n ≡ q → q ≡ Atom
    go (Pair l r) h = let p = tree_pair f s n l r h in let z : ◌≡◌ {A = ℕ} 0 1 = cc in absurd (omega arith)
    go Atom h = refl

nil_cell : (s : List ℕ) → cell_at s 0 ≡ Atom
nil_cell s = go (cell_at s 0) refl
  where
    go : (q : Cell) → cell_at s 0 ≡ q → q ≡ Atom
    go (Pair l r) h = let p = cell_below s 0 l r h in absurd (omega arith)
    go Atom h = refl

pub nil_named : {f s : List ℕ} {c : Charges} → Held f s c → Named f s c 0
nil_named {f} {s} {c} h = record { ready = ready.nil_ready f s c h; is_atom = nil_cell s }

-- ---- in a store that has grown

module _ {f s s' : List ℕ} {c c' : Charges} (g : Grown f s s' c c') where
  pub named_after : {n : ℕ} → Named f s c n → Named f s' c' n
  named_after {n} h = record { ready = ready.grown_ready g h.ready; is_atom = atom_cell f s' n (bytes_at f s n) (ready.grown_tree g h.ready ∙ name_tree h) }

  pub bytes_after : {n : ℕ} → Named f s c n → bytes_at f s' n ≡ bytes_at f s n
  bytes_after {n} h =
      let e : tree_at f s' n ≡ atom (bytes_at f s' n) = name_tree (named_after h) in
      let d : tree_at f s n ≡ atom (bytes_at f s n) = name_tree h in
      let t : tree_at f s' n ≡ tree_at f s n = ready.grown_tree g h.ready in
      cc

  pub binding_after : {n m : ℕ} → Named f s c n → Ready f s c m → binding_at f s' n m ≡ binding_at f s n m
  unfolding binding_at
  binding_after h r = rw (bytes_after h, ready.grown_tree g r)

  pub bindings_after : {ks : Bindings} → Bound f s c ks → bindings_at f s' ks ≡ bindings_at f s ks
  unfolding bindings_at
  bindings_after h = rw (binding_after h.first_name h.first_node, binding_after h.second_name h.second_node)

  pub bound_after : {ks : Bindings} → Bound f s c ks → Bound f s' c' ks
  bound_after h = record {
    few = h.few;
    first_name = named_after h.first_name;
    first_node = ready.grown_ready g h.first_node;
    second_name = named_after h.second_name;
    second_node = ready.grown_ready g h.second_node;
  }

-- ---- no bindings

pub none_bound : {f s : List ℕ} {c : Charges} → Held f s c → Bound f s c no_bindings
none_bound {f} {s} {c} h =
    let r : Ready f s c 0 = ready.nil_ready f s c h in
    record { few = omega arith; first_name = nil_named h; first_node = r; second_name = nil_named h; second_node = r }

pub none_are : (f s : List ℕ) → bindings_at f s no_bindings ≡ []
unfolding bindings_at
none_are f s = refl

-- ---- get

module _ (name : List ℕ) (x y : meaning.Binding) where
  get_zero : (k : ℕ) → k ≡ 0 → none ≡ meaning.get name (take k (x ∷ y ∷ []))
  unfolding meaning.get
  get_zero k e = rw e

  get_first : (k : ℕ) → (k ≡ 0 → ⊥) → true ≡ same_bytes name x.name → some x.node ≡ meaning.get name (take k (x ∷ y ∷ []))
  unfolding meaning.get
  get_first zero h e = absurd (h refl)
  get_first (suc k) h e = rw (← e, meaning.get)

  get_one : (k : ℕ) → k ≡ 1 → false ≡ same_bytes name x.name → none ≡ meaning.get name (take k (x ∷ y ∷ []))
  unfolding meaning.get
  get_one k o e = rw (o, ← e, meaning.get)

  get_second : (k : ℕ) → k ≡ 2 → false ≡ same_bytes name x.name → true ≡ same_bytes name y.name → some y.node ≡ meaning.get name (take k (x ∷ y ∷ []))
  unfolding meaning.get
  get_second k o e d = rw (o, ← e, ← d, meaning.get)

  get_none : (k : ℕ) → k ≡ 2 → false ≡ same_bytes name x.name → false ≡ same_bytes name y.name → none ≡ meaning.get name (take k (x ∷ y ∷ []))
  unfolding meaning.get
  get_none k o e d = rw (o, ← e, ← d, meaning.get)

two : (k : ℕ) → k ≤ 2 → (k ≡ 0 → ⊥) → (k ≡ 1 → ⊥) → k ≡ 2
two k a b d = omega arith

module _ (f s : List ℕ) (c : Charges) (ks : Bindings) (name : List ℕ) where
  got_none : Bound f s c ks → none ≡ meaning.get name (bindings_at f s ks) → GotOk f s s c None (meaning.get name (bindings_at f s ks))
  unfolding got_at GotIn
  got_none h e = record { answer = e; found = tt; grown = ready.grown_none f s c h.first_node.held }

  bound_at : (n : ℕ) → Ready f s c n → some (tree_at f s n) ≡ meaning.get name (bindings_at f s ks) → GotOk f s s c (Some n) (meaning.get name (bindings_at f s ks))
  unfolding got_at GotIn
  bound_at n r e = record { answer = e; found = r; grown = ready.grown_none f s c r.held }

  b₁ : meaning.Binding
  b₁ = binding_at f s ks.name_1 ks.node_1

  b₂ : meaning.Binding
  b₂ = binding_at f s ks.name_2 ks.node_2

  pub got_zero : ks.count ≡ 0 → Bound f s c ks → GotOk f s s c None (meaning.get name (bindings_at f s ks))
  unfolding bindings_at b₁ b₂
  got_zero e h = got_none h (get_zero name b₁ b₂ ks.count e)

  module _ (u : Bool) (eu : u ≡ same_bytes name (bytes_at f s ks.name_1)) where
    pub got_first : u ≡ true → (ks.count ≡ 0 → ⊥) → Bound f s c ks → GotOk f s s c (Some ks.node_1) (meaning.get name (bindings_at f s ks))
    unfolding bindings_at binding_at b₁ b₂
    got_first e z h = bound_at ks.node_1 h.first_node (get_first name b₁ b₂ ks.count z (sym e ∙ eu))

    pub got_one : u ≡ false → ks.count ≡ 1 → Bound f s c ks → GotOk f s s c None (meaning.get name (bindings_at f s ks))
    unfolding bindings_at binding_at b₁ b₂
    got_one e o h = got_none h (get_one name b₁ b₂ ks.count o (sym e ∙ eu))

    module _ (v : Bool) (ev : v ≡ same_bytes name (bytes_at f s ks.name_2)) (e : u ≡ false) (z : ks.count ≡ 0 → ⊥) (o : ks.count ≡ 1 → ⊥) where
      pub got_second : v ≡ true → Bound f s c ks → GotOk f s s c (Some ks.node_2) (meaning.get name (bindings_at f s ks))
      unfolding bindings_at binding_at b₁ b₂
      got_second d h = bound_at ks.node_2 h.second_node (get_second name b₁ b₂ ks.count (two ks.count h.few z o) (sym e ∙ eu) (sym d ∙ ev))

      pub got_neither : v ≡ false → Bound f s c ks → GotOk f s s c None (meaning.get name (bindings_at f s ks))
      unfolding bindings_at binding_at b₁ b₂
      got_neither d h = got_none h (get_none name b₁ b₂ ks.count (two ks.count h.few z o) (sym e ∙ eu) (sym d ∙ ev))

-- ---- insert

-- the tests that insert makes
pub inserted_none : (ks : Bindings) (name node : ℕ) → ks.count ≡ 0 → Matched (record { count = 1; name_1 = name; node_1 = node; name_2 = 0; node_2 = 0 }) ≡ inserted ks name node
unfolding inserted
inserted_none ks name node e = simp (eq-eqb _ _ e)

pub inserted_first : (ks o : Bindings) (name node : ℕ) → o ≡ no_bindings → ks.count ≡ 0 → Matched (record { count = 1; name_1 = name; node_1 = node; name_2 = o.name_2; node_2 = o.node_2 }) ≡ inserted ks name node
inserted_first ks o name node i e = rw i (inserted_none ks name node e)

pub inserted_one : (ks : Bindings) (name node : ℕ) → ks.count ≡ 1 → Matched (record { count = 2; name_1 = ks.name_1; node_1 = ks.node_1; name_2 = name; node_2 = node }) ≡ inserted ks name node
unfolding inserted
inserted_one ks name node e = let z : ks.count ≡ 0 → ⊥ = λ i. omega arith in simp (ne_eqb _ _ z, eq-eqb _ _ e)

pub inserted_two : (ks : Bindings) (name node : ℕ) → (ks.count ≡ 0 → ⊥) → (ks.count ≡ 1 → ⊥) → TooManyNames ≡ inserted ks name node
unfolding inserted
inserted_two ks name node z e = simp (ne_eqb _ _ z, ne_eqb _ _ e)

-- what it answers stands for
module _ {f s : List ℕ} {c : Charges} (ks : Bindings) {n m : ℕ} (h : Bound f s c ks) (a : Named f s c n) (r : Ready f s c m) where
  pub insert_is : match_at f s (inserted ks n m) ≡ meaning.verdict (meaning.insert (binding_at f s n m) (bindings_at f s ks))
  unfolding match_at meaning.insert meaning.verdict bindings_at
  insert_is = go ks.count refl
    where
      go : (k : ℕ) → ks.count ≡ k → match_at f s (inserted ks n m) ≡ meaning.verdict (meaning.insert (binding_at f s n m) (bindings_at f s ks))
      go zero e = rw (← inserted_none ks n m e, e)
      go (suc zero) e = rw (← inserted_one ks n m e, e)
      go (suc (suc k)) e =
          let w : ks.count ≡ 2 = let v : ks.count ≤ 2 = h.few in omega arith in
          rw (← inserted_two ks n m (λ z. omega arith) (λ z. omega arith), w)

  pub insert_bound : BoundIn f s c (inserted ks n m)
  unfolding BoundIn
  insert_bound = go ks.count refl
    where
      go : (k : ℕ) → ks.count ≡ k → BoundIn f s c (inserted ks n m)
      go zero e = rw (← inserted_none ks n m e) (record { few = omega arith; first_name = a; first_node = r; second_name = nil_named r.held; second_node = ready.nil_ready f s c r.held })
      go (suc zero) e = rw (← inserted_one ks n m e) (record { few = omega arith; first_name = h.first_name; first_node = h.first_node; second_name = a; second_node = r })
      go (suc (suc k)) e = rw (← inserted_two ks n m (λ z. omega arith) (λ z. omega arith)) tt
