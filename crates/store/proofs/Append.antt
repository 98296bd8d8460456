-- Writing into the gap between records and made bytes keeps the store; a record written at its foot is a node.
use Rattle.std.proofs.Common.{◌≡◌, ℕ, ◌+◌, ◌-◌, ◌<◌, ◌≤◌, List, length, get_or, set, sym, refl, ◌∙◌, ap₂, arith, get_or-set_same}
use Rattle.meaning.specs.Tree.{Tree, pair}
use Rattle.store.specs.declared.Cell.TheVariants.{Pair, Atom}
use Rattle.store.specs.Cells.{num16, num64, kind_at, size_at, cell_at, put16, put64, pair_put, Room, Starts, Writes}
use Rattle.store.specs.Nodes.{tree_at, print_of, mixed}
use Rattle.store.specs.Store.{Store, Held, Ready, Paid, PairRight, MadeRight, atom_most, noted_at, noted_tail_at}
use Rattle.store.specs.declared.Charges.{Charges}
use Rattle.store.specs.Makers.{Put}
use Rattle.store.proofs.Laws.{cell_pair}
use Rattle.store.proofs.Writes.{both, one, two, eight, below16, below64, above16, above64, drop_above, same16, same64}
use Rattle.store.proofs.Places.{apart, apart5, apart15, node_zero, node_next, size_pair, split}
use Rattle.store.proofs.Trees.{cell_below, tree_pair}
use Rattle.store.proofs.Frame.{Skeleton, Remembers, nodes, trees, mades, shorts, remembers_kept, pairs_kept}

module _ (f s t : List ℕ) (n top : ℕ) (st : Store f s n top) (w : Writes s t n top) where
  pub gap : Skeleton s t n top
  unfolding kind_at
  gap = record {
    long = w.long;
    kinds = λ j a h. rw (w.below j h);
    firsts = λ j a h. let z : j + 5 ≤ n = apart5 s j n a st.ends h in below16 w (j + 1) (omega arith);
    seconds = λ j a h. let z : j + 5 ≤ n = apart5 s j n a st.ends h in below16 w (j + 3) (omega arith);
    prints = λ j a h e. let z : j + 15 ≤ n = apart15 s j n a st.ends h e in below64 w (j + 5) (omega arith);
    tops = drop_above w;
  }

  gap_remembers : (m l r : ℕ) → Starts s m → m < n → cell_at s m ≡ Pair l r → Remembers f s t m
  gap_remembers m l r a h e =
      let i = cell_below s m l r e in
      let z : m + 15 ≤ n = apart15 s m n a st.ends h i.kind in
      remembers_kept f s t n top st gap m l r a h e (w.below m h) (below16 w (m + 13) (omega arith))

  -- a record of z bytes at n, right in itself: the store goes up to n + z
  module _ (top' z : ℕ) (le : top' ≤ top) (order : n + z + 10 ≤ top') (size : size_at t n ≡ z) (most : 5 ≤ z)
      (newMade : kind_at t n ≡ 1 → MadeRight t top' n)
      (newShort : cell_at t n ≡ Atom → num16 t (n + 3) ≤ atom_most)
      (newPair : (l r : ℕ) → cell_at t n ≡ Pair l r → PairRight f t n l r) where
    pub here : Starts t n
    here = nodes f s t n top st gap n st.ends (omega arith)

    next : Starts t (n + z)
    next = node_next t n z here size

    -- a node of the new store is an old one, or the new one
    last : (m : ℕ) → Starts t m → m < n + z → n ≤ m → m ≡ n
    last m k h h' = split n m (λ d. absurd (let y : n + size_at t n ≤ m = apart t n m here k d in omega arith)) (λ d. omega arith)

    pub appended : Store f t (n + z) top'
    appended = record {
      size = let y : length t ≡ length s = w.long in omega (arith, st.size);
      order = order;
      top = let y : top < 65536 = st.top in omega arith;
      ends = next;
      made = λ m k h e. split m n (λ o. mades f s t n top st gap top' m le k o e)
          (λ o. let y : m ≡ n = last m k h o in let e' : kind_at t n ≡ 1 = rw y at e in rw y (newMade e'));
      short = λ m k h e. split m n (λ o. shorts f s t n top st gap m k o e)
          (λ o. let y : m ≡ n = last m k h o in let e' : cell_at t n ≡ Atom = rw y at e in rw y (newShort e'));
      pairs = λ m l r k h e. split m n (λ o. pairs_kept f s t n top st gap gap_remembers m l r k o e)
          (λ o. let y : m ≡ n = last m k h o in let e' : cell_at t n ≡ Pair l r = rw y at e in rw y (newPair l r e'));
    }

-- the charges after a record of z bytes, with the made bytes from top on
abbrev pub after : Charges → ℕ → ℕ → Charges
after c z top = record { units = c.units; free = c.free; end = c.end + z; top = top }

-- a store that grew by a record is held, where that was paid
module _ (f s t : List ℕ) (c : Charges) (h : Held f s c) (w : Writes s t c.end c.top) (top' z : ℕ)
    (paid : Paid c (z + (c.top - top'))) (le : top' ≤ c.top) (new : Store f t (c.end + z) top') where
  held_after : Held f t (after c z top')
  unfolding Paid
  held_after = record {
    store = new;
    begun = let o : 0 < c.end = h.begun in omega arith;
    nil_at = trees f s t c.end c.top h.store (gap f s t c.end c.top h.store w) 0 (node_zero s) h.begun ∙ h.nil_at;
    units = h.units;
    free = h.free;
    paid = let o : c.top < 65536 = h.store.top in omega arith;
  }

  pub put_after : (x : Tree) → Starts t c.end → 0 < z → tree_at f t c.end ≡ x → Put f s t c (after c z top') x
  put_after x a o e = record {
    stands = record {
      grown = record {
        held = held_after;
        long = w.long;
        ends = omega arith;
        nodes = nodes f s t c.end c.top h.store (gap f s t c.end c.top h.store w);
        trees = trees f s t c.end c.top h.store (gap f s t c.end c.top h.store w);
      };
      ready = record { held = held_after; node = a; old = omega arith };
      tree = e;
    };
    units = refl;
    free = refl;
  }

-- where 15 bytes, or fewer with some made bytes, are paid for, they fit
pub room_paid : {f s : List ℕ} {c : Charges} (k : ℕ) → Held f s c → Paid c k → c.end + k + 10 ≤ c.top
unfolding Paid
room_paid {f} {s} {c} k h p =
    let a : c.units ≤ 32768 = h.units in
    let b : c.free ≤ 4000 = h.free in
    let o : c.top < 65536 = h.store.top in
    omega arith

-- the bytes of a new pair
module _ (s : List ℕ) (n l r p : ℕ) where
  pub pair_writes : Writes s (pair_put s n l r p) n (n + 15)
  unfolding pair_put
  pair_writes =
      both n (n + 15)
      (both n (n + 15)
      (both n (n + 13)
      (both n (n + 5) (two s (n + 1) l) (two (put16 s (n + 1) l) (n + 3) r) (omega arith) (omega arith) (omega arith) (omega arith))
      (eight (put16 (put16 s (n + 1) l) (n + 3) r) (n + 5) p) (omega arith) (omega arith) (omega arith) (omega arith))
      (two (put64 (put16 (put16 s (n + 1) l) (n + 3) r) (n + 5) p) (n + 13) n) (omega arith) (omega arith) (omega arith) (omega arith))
      (one (put16 (put64 (put16 (put16 s (n + 1) l) (n + 3) r) (n + 5) p) (n + 13) n) n 2) (omega arith) (omega arith) (omega arith) (omega arith)

  pub record PairBytes (t : List ℕ) : Type 0 where
    pub kind : get_or t n 0 ≡ 2
    pub left : num16 t (n + 1) ≡ l
    pub right : num16 t (n + 3) ≡ r
    pub print : num64 t (n + 5) ≡ p
    pub same : num16 t (n + 13) ≡ n

  pub pair_bytes : n + 15 ≤ length s → l < 65536 → r < 65536 → p < 18446744073709551616 → n < 65536 → PairBytes (pair_put s n l r p)
  unfolding pair_put
  pair_bytes h hl hr hp hn =
      let v : List ℕ = put16 s (n + 1) l in
      let x : List ℕ = put16 v (n + 3) r in
      let y : List ℕ = put64 x (n + 5) p in
      let z : List ℕ = put16 y (n + 13) n in
      let zv : length v ≡ length s = (two s (n + 1) l).long in
      let zx : length x ≡ length v = (two v (n + 3) r).long in
      let zy : length y ≡ length x = (eight x (n + 5) p).long in
      let zz : length z ≡ length y = (two y (n + 13) n).long in
      let k : Writes z (set z n 2) n (n + 1) = one z n 2 in
      record {
        kind = get_or-set_same z n 2 0 (omega arith);
        left = above16 k (n + 1) (omega arith) ∙ below16 (two y (n + 13) n) (n + 1) (omega arith) ∙ below16 (eight x (n + 5) p) (n + 1) (omega arith) ∙ below16 (two v (n + 3) r) (n + 1) (omega arith) ∙ same16 s (n + 1) l (omega arith) hl;
        right = above16 k (n + 3) (omega arith) ∙ below16 (two y (n + 13) n) (n + 3) (omega arith) ∙ below16 (eight x (n + 5) p) (n + 3) (omega arith) ∙ same16 v (n + 3) r (omega arith) hr;
        print = above64 k (n + 5) (omega arith) ∙ below64 (two y (n + 13) n) (n + 5) (omega arith) ∙ same64 x (n + 5) p (omega arith) hp;
        same = above16 k (n + 13) (omega arith) ∙ same16 y (n + 13) n (omega arith) hn;
      }

pub record_room : (f s : List ℕ) (c : Charges) (n k : ℕ) → Held f s c → Paid c k → n ≡ c.end → 5 ≤ k → Room s n
record_room f s c n k h p e z =
    let o : c.end + k + 10 ≤ c.top = room_paid k h p in
    let u : c.top < 65536 = h.store.top in
    record { node = omega arith; size = h.store.size }

-- what append_pair returns
module _ (f s t : List ℕ) (c : Charges) (l r p a b : ℕ) (e : t ≡ pair_put s c.end l r p) (hl : Ready f s c l) (hr : Ready f s c r) (paid : Paid c 15)
    (ep : p ≡ mixed a b) (ea : a ≡ print_of (tree_at f s l)) (eb : b ≡ print_of (tree_at f s r)) (fits : p < 18446744073709551616) where
  st : Store f s c.end c.top
  st = hl.held.store

  fit : c.end + 15 + 10 ≤ c.top
  fit = room_paid 15 hl.held paid

  w : Writes s t c.end c.top
  w = let h : c.end + 15 + 10 ≤ c.top = fit in let z : Writes s t c.end (c.end + 15) = rw e (pair_writes s c.end l r p) in
      record { long = z.long; below = z.below; above = λ j hj. z.above j (omega arith) }

  bytes : PairBytes s c.end l r p t
  bytes =
      let h : c.end + 15 + 10 ≤ c.top = fit in
      let u : c.top < 65536 = st.top in
      let v : 65536 ≤ length s = st.size in
      let x : l < c.end = hl.old in
      let y : r < c.end = hr.old in
      rw e (pair_bytes s c.end l r p (omega arith) (omega arith) (omega arith) fits (omega arith))

  kind : kind_at t c.end ≡ 2
  unfolding kind_at
  kind = rw bytes.kind

  cell : cell_at t c.end ≡ Pair l r
  unfolding kind_at
  cell = sym (cell_pair t c.end l r kind (sym bytes.left) (sym bytes.right) hl.old hr.old)

  g : Skeleton s t c.end c.top
  g = gap f s t c.end c.top st w

  tree : tree_at f t c.end ≡ pair (tree_at f s l) (tree_at f s r)
  tree = tree_pair f t c.end l r cell ∙ ap₂ pair (trees f s t c.end c.top st g l hl.node hl.old) (trees f s t c.end c.top st g r hr.node hr.old)

  new_pair : (x y : ℕ) → cell_at t c.end ≡ Pair x y → PairRight f t c.end x y
  unfolding noted_at noted_tail_at print_of
  new_pair x y e₂ =
      let e₃ : cell_at t c.end ≡ Pair l r = cell in
      let ex : l ≡ x = cc in
      let ey : r ≡ y = cc in
      rw (← ex, ← ey)
      (record {
        left = nodes f s t c.end c.top st g l hl.node (let o : l < c.end = hl.old in omega arith);
        right = nodes f s t c.end c.top st g r hr.node (let o : r < c.end = hr.old in omega arith);
        print = bytes.print ∙ ep ∙ rw (tree, ea, eb);
        known = rw bytes.kind (λ (k : 2 ≤ 0). absurd (omega arith));
        known_tail = rw bytes.kind (λ (k : 2 ≤ 0). absurd (omega arith));
        same_node = rw bytes.same (nodes f s t c.end c.top st g c.end st.ends (omega arith));
        same_below = let z : num16 t (c.end + 13) ≡ c.end = bytes.same in omega arith;
        same_tree = rw bytes.same;
      })

  new_store : Store f t (c.end + 15) c.top
  new_store =
      let k : kind_at t c.end ≡ 2 = kind in
      let e₃ : cell_at t c.end ≡ Pair l r = cell in
      appended f s t c.end c.top st w c.top 15 (omega arith) fit (size_pair t c.end kind) (omega arith)
      (λ e₁. absurd (omega arith))
      (λ e₁. absurd (let z : ◌≡◌ {A = ℕ} 0 1 = cc in omega arith))
      new_pair

  pub put_pair : Put f s t c (after c 15 c.top) (pair (tree_at f s l) (tree_at f s r))
  put_pair =
      put_after f s t c hl.held w c.top 15 (let z : 15 + (c.top - c.top) ≡ 15 = omega arith in rw z paid) (omega arith) new_store
      (pair (tree_at f s l) (tree_at f s r)) (nodes f s t c.end c.top st g c.end st.ends (omega arith)) (omega arith) tree
