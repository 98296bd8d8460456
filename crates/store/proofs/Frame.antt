-- What a change of the room keeps: where the records and the made bytes are as they were, but for what is remembered, the nodes stand for the same trees.
use Rattle.std.proofs.Common.{◌≡◌, ℕ, ◌+◌, ◌<◌, ◌≤◌, Bool, true, false, eqb, List, length, get_or, take, drop, sym, refl, ap, ◌∙◌, arith, eqb-true}
use Rattle.meaning.specs.Constant.{seems_constant, seems_constant_tail}
use Rattle.store.specs.declared.Cell.TheVariants.{Pair, Atom}
use Rattle.store.specs.Cells.{num16, num64, kind_at, cell_at, bytes_at, pick, Starts}
use Rattle.store.specs.Nodes.{tree_at, print_of}
use Rattle.store.specs.Store.{Store, PairRight, MadeRight, atom_most, noted_at, noted_tail_at}
use Rattle.store.proofs.Places.{node_kept, node_back}
use Rattle.store.proofs.Trees.{cell_below, cell_cong, frame}

-- t has the records of s up to n, but for what they remember, and its made bytes from top on
pub record Skeleton (s t : List ℕ) (n top : ℕ) : Type 0 where
  pub long : length t ≡ length s
  pub kinds : (j : ℕ) → Starts s j → j < n → kind_at t j ≡ kind_at s j
  pub firsts : (j : ℕ) → Starts s j → j < n → num16 t (j + 1) ≡ num16 s (j + 1)
  pub seconds : (j : ℕ) → Starts s j → j < n → num16 t (j + 3) ≡ num16 s (j + 3)
  pub prints : (j : ℕ) → Starts s j → j < n → kind_at s j ≡ 2 → num64 t (j + 5) ≡ num64 s (j + 5)
  pub tops : (i : ℕ) → top ≤ i → drop i t ≡ drop i s

-- what t remembers of the pair m is right by the trees of s
pub record Remembers (f s t : List ℕ) (m : ℕ) : Type 0 where
  pub known : 2 ≤ noted_at t m → eqb (noted_at t m) 3 ≡ seems_constant (tree_at f s m)
  pub known_tail : 2 ≤ noted_tail_at t m → eqb (noted_tail_at t m) 3 ≡ seems_constant_tail (tree_at f s m)
  pub same_node : Starts s (num16 t (m + 13))
  pub same_below : num16 t (m + 13) ≤ m
  pub same_tree : tree_at f s (num16 t (m + 13)) ≡ tree_at f s m

module _ (f s t : List ℕ) (n top : ℕ) (st : Store f s n top) (k : Skeleton s t n top) where
  pub nodes : (m : ℕ) → Starts s m → m ≤ n → Starts t m
  nodes = node_kept s t n k.kinds

  pub back : (m : ℕ) → Starts t m → m ≤ n → Starts s m
  back = node_back s t n k.kinds

  cells : (m : ℕ) → Starts s m → m < n → cell_at t m ≡ cell_at s m
  cells m a h = cell_cong s t m (k.kinds m a h) (k.firsts m a h) (k.seconds m a h)

  bytes : (m : ℕ) → Starts s m → m < n → bytes_at f t m ≡ bytes_at f s m
  unfolding bytes_at
  bytes m a h = rw (k.kinds m a h, k.firsts m a h, k.seconds m a h) (go (eqb (kind_at s m) 1) refl)
    where
      go : (b : Bool) → eqb (kind_at s m) 1 ≡ b → take (num16 s (m + 3)) (drop (num16 s (m + 1)) (pick b t f)) ≡ take (num16 s (m + 3)) (drop (num16 s (m + 1)) (pick b s f))
      go true e = rw (k.tops (num16 s (m + 1)) (st.made m a h (eqb-true (kind_at s m) 1 e)).above)
      go false e = refl

  -- the frame law
  pub trees : (m : ℕ) → Starts s m → m < n → tree_at f t m ≡ tree_at f s m
  trees m a h =
      frame f s t (λ i. Starts s i × (i < n))
      (λ i l r p e. let q = st.pairs i l r p.0 p.1 e in let b = cell_below s i l r e in let o : i < n = p.1 in ((q.left, omega arith), (q.right, omega arith)))
      (λ i p. cells i p.0 p.1) (λ i p. bytes i p.0 p.1) m (a, h)

  pub mades : (top' m : ℕ) → top' ≤ top → Starts t m → m < n → kind_at t m ≡ 1 → MadeRight t top' m
  mades top' m le a h e =
      let b : Starts s m = back m a (omega arith) in
      let q : MadeRight s top m = st.made m b h (sym (k.kinds m b h) ∙ e) in
      let x : top ≤ num16 s (m + 1) = q.above in
      let y : num16 s (m + 1) + num16 s (m + 3) ≤ 65536 = q.within in
      let e₁ : num16 t (m + 1) ≡ num16 s (m + 1) = k.firsts m b h in
      let e₃ : num16 t (m + 3) ≡ num16 s (m + 3) = k.seconds m b h in
      record { above = omega arith; within = omega arith }

  pub shorts : (m : ℕ) → Starts t m → m < n → cell_at t m ≡ Atom → num16 t (m + 3) ≤ atom_most
  shorts m a h e =
      let b : Starts s m = back m a (omega arith) in
      rw (k.seconds m b h) (st.short m b h (sym (cells m b h) ∙ e))

  -- where the kind byte and the same node are as they were, so is what is remembered
  pub remembers_kept : (m l r : ℕ) → Starts s m → m < n → cell_at s m ≡ Pair l r → get_or t m 0 ≡ get_or s m 0 → num16 t (m + 13) ≡ num16 s (m + 13) → Remembers f s t m
  unfolding noted_at noted_tail_at
  remembers_kept m l r a h e ek en = let q = st.pairs m l r a h e in record {
    known = rw ek q.known;
    known_tail = rw ek q.known_tail;
    same_node = rw en q.same_node;
    same_below = rw en q.same_below;
    same_tree = rw en q.same_tree;
  }

  module _ (re : (m l r : ℕ) → Starts s m → m < n → cell_at s m ≡ Pair l r → Remembers f s t m) where
    pub pairs_kept : (m l r : ℕ) → Starts t m → m < n → cell_at t m ≡ Pair l r → PairRight f t m l r
    pairs_kept m l r a h e =
        let b : Starts s m = back m a (omega arith) in
        let c : cell_at s m ≡ Pair l r = sym (cells m b h) ∙ e in
        let i = cell_below s m l r c in
        let q : PairRight f s m l r = st.pairs m l r b h c in
        let z : Remembers f s t m = re m l r b h c in
        let below : num16 t (m + 13) ≤ m = z.same_below in
        record {
          left = nodes l q.left (omega arith);
          right = nodes r q.right (omega arith);
          print = k.prints m b h i.kind ∙ q.print ∙ ap print_of (sym (trees m b h));
          known = rw (trees m b h) z.known;
          known_tail = rw (trees m b h) z.known_tail;
          same_node = nodes (num16 t (m + 13)) z.same_node (omega arith);
          same_below = z.same_below;
          same_tree = trees (num16 t (m + 13)) z.same_node (omega arith) ∙ z.same_tree ∙ sym (trees m b h);
        }

    -- the store is whole again
    pub store_kept : Store f t n top
    store_kept = record {
      size = let z : length t ≡ length s = k.long in omega (arith, st.size);
      order = st.order;
      top = st.top;
      ends = nodes n st.ends (omega arith);
      made = λ m a h e. mades top m (omega arith) a h e;
      short = shorts;
      pairs = pairs_kept;
    }
