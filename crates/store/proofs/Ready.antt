-- What a node of the store allows: reading it, going to its parts, its fingerprint, its same node; and what a change keeps.
use Rattle.std.proofs.Common.{◌≡◌, ℕ, ◌+◌, ◌<◌, ◌≤◌, eqb, List, length, sym, refl, ◌∙◌, arith, length-take}
use Rattle.meaning.specs.Tree.{atom, pair}
use Rattle.meaning.specs.Constant.{seems_constant, seems_constant_tail}
use Rattle.store.specs.declared.Cell.{Cell}
use Rattle.store.specs.declared.Cell.TheVariants.{Pair, Atom}
use Rattle.store.specs.declared.Charges.{Charges}
use Rattle.store.specs.Cells.{num16, num64, cell_at, bytes_at, same_at, same_of, Room, Starts}
use Rattle.store.specs.Nodes.{tree_at, print_of, print_from}
use Rattle.store.specs.Store.{Held, Ready, PairRight, noted_at, noted_tail_at}
use Rattle.store.specs.Makers.{Grown}
use Rattle.store.proofs.Places.{apart5, node_zero}
use Rattle.store.proofs.Trees.{cell_below, tree_pair, tree_atom}

pub room : (f s : List ℕ) (c : Charges) (m : ℕ) → Ready f s c m → Room s m
room f s c m h =
    let a : m + 5 ≤ c.end = apart5 s m c.end h.node h.held.store.ends h.old in
    let b : c.end + 10 ≤ c.top = h.held.store.order in
    let d : c.top < 65536 = h.held.store.top in
    record { node = omega arith; size = h.held.store.size }

pub print_room : (f s : List ℕ) (c : Charges) (m : ℕ) → Ready f s c m → m + 5 + 7 < length s
print_room f s c m h = let r = room f s c m h in omega arith

-- a node's number fits 16 bits
pub small : (f s : List ℕ) (c : Charges) (m : ℕ) → Ready f s c m → m < 65536
small f s c m h = let r = room f s c m h in omega arith

pub nil_ready : (f s : List ℕ) (c : Charges) → Held f s c → Ready f s c 0
nil_ready f s c h = record { held = h; node = node_zero s; old = h.begun }

-- after a look that gave a pair
module _ (f s : List ℕ) (c : Charges) (m l r : ℕ) (q : Cell) (ep : q ≡ Pair l r) (eq : q ≡ cell_at s m) where
  pub falls_left : l < m
  falls_left = (cell_below s m l r (sym eq ∙ ep)).fall_left

  pub falls_right : r < m
  falls_right = (cell_below s m l r (sym eq ∙ ep)).fall_right

  pub room_left : Room s m → Room s l
  room_left h = let o : l < m = falls_left in record { node = omega arith; size = h.size }

  pub room_right : Room s m → Room s r
  room_right h = let o : r < m = falls_right in record { node = omega arith; size = h.size }

  pub look_pair : tree_at f s m ≡ pair (tree_at f s l) (tree_at f s r)
  look_pair = tree_pair f s m l r (sym eq ∙ ep)

  module _ (h : Ready f s c m) where
    right : PairRight f s m l r
    right = h.held.store.pairs m l r h.node h.old (sym eq ∙ ep)

    pub ready_left : Ready f s c l
    ready_left = let o : m < c.end = h.old in record { held = h.held; node = right.left; old = omega (arith, falls_left) }

    pub ready_right : Ready f s c r
    ready_right = let o : m < c.end = h.old in record { held = h.held; node = right.right; old = omega (arith, falls_right) }

    pub print_pair : (x : ℕ) → x ≡ num64 s (m + 5) → x ≡ print_of (tree_at f s m)
    print_pair x e = e ∙ right.print

    -- a remembered answer is right
    pub known : (d : ℕ) → d ≡ noted_at s m → 2 ≤ d → eqb d 3 ≡ seems_constant (tree_at f s m)
    known d e o = let p : 2 ≤ noted_at s m = rw (← e) o in rw e (right.known p)

    pub knows_tail : (d : ℕ) → d ≡ noted_tail_at s m → 2 ≤ d → eqb d 3 ≡ seems_constant_tail (tree_at f s m)
    knows_tail d e o = let p : 2 ≤ noted_tail_at s m = rw (← e) o in rw e (right.known_tail p)

bytes_short : (f s : List ℕ) (m : ℕ) → num16 s (m + 3) ≤ 256 → length (bytes_at f s m) ≤ 256
unfolding bytes_at
bytes_short f s m h = simp length-take (omega arith)

-- after a look that gave an atom
module _ (f s : List ℕ) (m : ℕ) (q : Cell) (eq : q ≡ cell_at s m) (ep : q ≡ Atom) where
  pub look_atom : tree_at f s m ≡ atom (bytes_at f s m)
  look_atom = tree_atom f s m (sym eq ∙ ep)

  pub print_atom : (z : List ℕ) (x : ℕ) → z ≡ bytes_at f s m → x ≡ print_from 7 z → x ≡ print_of (tree_at f s m)
  unfolding print_of
  print_atom z x ez ex = rw (look_atom, ← ez, ex)

  -- an atom's bytes are few
  pub atom_short : (c : Charges) (z : List ℕ) → Ready f s c m → z ≡ bytes_at f s m → length z ≤ 256
  atom_short c z h ez = rw ez (bytes_short f s m (h.held.store.short m h.node h.old (sym eq ∙ ep)))

-- the same node
pub record Same (f s : List ℕ) (n m : ℕ) : Type 0 where
  pub node : Starts s m
  pub below : m ≤ n
  pub tree : tree_at f s m ≡ tree_at f s n

pub same_pair : (s : List ℕ) (n l r x : ℕ) (q : Cell) → x ≡ num16 s (n + 13) → q ≡ cell_at s n → q ≡ Pair l r → x ≡ same_at s n
unfolding same_at
same_pair s n l r x q ex eq ep = rw (sym eq ∙ ep) ex

pub same_atom : (s : List ℕ) (n : ℕ) (q : Cell) → q ≡ cell_at s n → q ≡ Atom → n ≡ same_at s n
unfolding same_at
same_atom s n q eq ep = rw (sym eq ∙ ep)

pub same : (f s : List ℕ) (c : Charges) (n m : ℕ) → m ≡ same_at s n → Ready f s c n → Same f s n m
unfolding same_at
same f s c n m e h = rw e (go (cell_at s n) refl)
  where
    go : (q : Cell) → cell_at s n ≡ q → Same f s n (same_of s n q)
    go (Pair l r) e = let z = h.held.store.pairs n l r h.node h.old e in record { node = z.same_node; below = z.same_below; tree = z.same_tree }
    go Atom e = record { node = h.node; below = omega arith; tree = refl }

-- what a change keeps
pub grown_none : (f s : List ℕ) (c : Charges) → Held f s c → Grown f s s c c
grown_none f s c h = record { held = h; long = refl; ends = omega arith; nodes = λ m a o. a; trees = λ m a o. refl }

pub grown_both : {f s s₁ s₂ : List ℕ} {c c₁ c₂ : Charges} → Grown f s s₁ c c₁ → Grown f s₁ s₂ c₁ c₂ → Grown f s s₂ c c₂
grown_both {f} {s} {s₁} {s₂} {c} {c₁} {c₂} g h =
    let o : c.end ≤ c₁.end = g.ends in
    let p : c₁.end ≤ c₂.end = h.ends in
    record {
      held = h.held;
      long = h.long ∙ g.long;
      ends = omega arith;
      nodes = λ m a u. h.nodes m (g.nodes m a u) (omega arith);
      trees = λ m a u. h.trees m (g.nodes m a (omega arith)) (omega arith) ∙ g.trees m a u;
    }

pub grown_ready : {f s s' : List ℕ} {c c' : Charges} {m : ℕ} → Grown f s s' c c' → Ready f s c m → Ready f s' c' m
grown_ready {f} {s} {s'} {c} {c'} {m} g h =
    let o : m < c.end = h.old in
    let p : c.end ≤ c'.end = g.ends in
    record { held = g.held; node = g.nodes m h.node (omega arith); old = omega arith }

pub grown_tree : {f s s' : List ℕ} {c c' : Charges} {m : ℕ} → Grown f s s' c c' → Ready f s c m → tree_at f s' m ≡ tree_at f s m
grown_tree {f} {s} {s'} {c} {c'} {m} g h = g.trees m h.node h.old
