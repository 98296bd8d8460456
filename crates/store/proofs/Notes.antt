-- Remembering an answer in a node's kind byte, or the same node in a pair's record, keeps every tree and the store.
use Rattle.std.proofs.Common.{◌≡◌, ℕ, ◌+◌, ◌*◌, ◌/◌, ◌%◌, ◌<◌, ◌≤◌, Bool, true, false, eqb, List, length, get_or, set, refl, ◌∙◌, arith, get_or-set_other, get_or-set_same}
use Rattle.meaning.specs.Constant.{seems_constant, seems_constant_tail}
use Rattle.store.specs.declared.Cell.{Cell}
use Rattle.store.specs.declared.Cell.TheVariants.{Pair, Atom}
use Rattle.store.specs.declared.Charges.{Charges}
use Rattle.store.specs.Cells.{num16, kind_at, cell_at, put16, Starts, Writes}
use Rattle.store.specs.Nodes.{tree_at}
use Rattle.store.specs.Store.{Store, Held, Ready, PairRight, noted_at, noted_tail_at, digit, note, note_tail}
use Rattle.store.specs.Makers.{Grown, Answered, Joins}
use Rattle.store.proofs.Writes.{one, two, below16, above16, below64, above64, drop_above, same16}
use Rattle.store.proofs.Places.{apart5, apart15, node_zero, split, whether}
use Rattle.store.proofs.Trees.{cell_below}
use Rattle.store.proofs.Frame.{Skeleton, Remembers, nodes, trees, remembers_kept, store_kept}

-- only what is remembered changed
pub grown_notes : (f s t : List ℕ) (c : Charges) (h : Held f s c) (k : Skeleton s t c.end c.top) → Store f t c.end c.top → Grown f s t c c
grown_notes f s t c h k st = record {
  held = record {
    store = st;
    begun = h.begun;
    nil_at = trees f s t c.end c.top h.store k 0 (node_zero s) h.begun ∙ h.nil_at;
    units = h.units;
    free = h.free;
    paid = h.paid;
  };
  long = k.long;
  ends = omega arith;
  nodes = nodes f s t c.end c.top h.store k;
  trees = trees f s t c.end c.top h.store k;
}

-- x is put for the kind byte of node m: its kind is as it was, and its digits are right
module _ (f s : List ℕ) (c : Charges) (m x : ℕ) (rd : Ready f s c m) (ex : x % 4 ≡ get_or s m 0 % 4)
    (kc : (l r : ℕ) → cell_at s m ≡ Pair l r → 2 ≤ x / 4 % 4 → eqb (x / 4 % 4) 3 ≡ seems_constant (tree_at f s m))
    (kt : (l r : ℕ) → cell_at s m ≡ Pair l r → 2 ≤ x / 16 % 4 → eqb (x / 16 % 4) 3 ≡ seems_constant_tail (tree_at f s m)) where
  st : Store f s c.end c.top
  st = rd.held.store

  w : Writes s (set s m x) m (m + 1)
  w = one s m x

  below_top : m + 1 ≤ c.top
  below_top = let a : m < c.end = rd.old in let b : c.end + 10 ≤ c.top = st.order in omega arith

  here : get_or (set s m x) m 0 ≡ x
  here =
      let b : m + 1 ≤ c.top = below_top in
      let d : c.top < 65536 = st.top in
      let e : 65536 ≤ length s = st.size in
      get_or-set_same s m x 0 (omega arith)

  other : (j : ℕ) → (j ≡ m → ⊥) → get_or (set s m x) j 0 ≡ get_or s j 0
  other j h = get_or-set_other s m j x 0 h

  kinds : (j : ℕ) → kind_at (set s m x) j ≡ kind_at s j
  unfolding kind_at
  kinds j = whether j m (λ e. rw (e, here) ex) (λ h. rw (other j h))

  k : Skeleton s (set s m x) c.end c.top
  k = record {
    long = w.long;
    kinds = λ j a h. kinds j;
    firsts = λ j a h. split j m (λ o. let z : j + 5 ≤ m = apart5 s j m a rd.node o in below16 w (j + 1) (omega arith)) (λ o. above16 w (j + 1) (omega arith));
    seconds = λ j a h. split j m (λ o. let z : j + 5 ≤ m = apart5 s j m a rd.node o in below16 w (j + 3) (omega arith)) (λ o. above16 w (j + 3) (omega arith));
    prints = λ j a h e. split j m (λ o. let z : j + 15 ≤ m = apart15 s j m a rd.node o e in below64 w (j + 5) (omega arith)) (λ o. above64 w (j + 5) (omega arith));
    tops = λ i h. let b : m + 1 ≤ c.top = below_top in drop_above w i (omega arith);
  }

  same : (j : ℕ) → Starts s j → kind_at s j ≡ 2 → num16 (set s m x) (j + 13) ≡ num16 s (j + 13)
  same j a e = split j m (λ o. let z : j + 15 ≤ m = apart15 s j m a rd.node o e in below16 w (j + 13) (omega arith)) (λ o. above16 w (j + 13) (omega arith))

  re : (j l r : ℕ) → Starts s j → j < c.end → cell_at s j ≡ Pair l r → Remembers f s (set s m x) j
  unfolding noted_at noted_tail_at
  re j l r a h e =
      let i = cell_below s j l r e in
      let q : PairRight f s j l r = st.pairs j l r a h e in
      let z : num16 (set s m x) (j + 13) ≡ num16 s (j + 13) = same j a i.kind in
      whether j m
      (λ o. let e' : cell_at s m ≡ Pair l r = rw o at e in record {
        known = rw (o, here) (kc l r e');
        known_tail = rw (o, here) (kt l r e');
        same_node = rw z q.same_node;
        same_below = rw z q.same_below;
        same_tree = rw z q.same_tree;
      })
      (λ o. remembers_kept f s (set s m x) c.end c.top st k j l r a h e (other j o) z)

  pub mark_grown : Grown f s (set s m x) c c
  mark_grown = grown_notes f s (set s m x) c rd.held k (store_kept f s (set s m x) c.end c.top st k re)

digit_is : (b : Bool) → eqb (digit b) 3 ≡ b
unfolding digit
digit_is true = refl
digit_is false = refl

digit_least : (b : Bool) → (2 ≤ digit b) × (digit b < 4)
unfolding digit
digit_least true = (omega arith, omega arith)
digit_least false = (omega arith, omega arith)

module _ (f s : List ℕ) (c : Charges) (m : ℕ) (b : Bool) (rd : Ready f s c m) where
  module _ (e : b ≡ seems_constant (tree_at f s m)) where
    x : ℕ
    x = get_or s m 0 % 4 + digit b * 4 + get_or s m 0 / 16 * 16

    x_kind : x % 4 ≡ get_or s m 0 % 4
    unfolding x
    x_kind = let d = digit_least b in omega arith

    x_one : x / 4 % 4 ≡ digit b
    unfolding x
    x_one = let d = digit_least b in omega arith

    x_two : x / 16 % 4 ≡ get_or s m 0 / 16 % 4
    unfolding x
    x_two = let d = digit_least b in omega arith

    kc : (l r : ℕ) → cell_at s m ≡ Pair l r → 2 ≤ x / 4 % 4 → eqb (x / 4 % 4) 3 ≡ seems_constant (tree_at f s m)
    kc l r z h = rw x_one (digit_is b ∙ e)

    kt : (l r : ℕ) → cell_at s m ≡ Pair l r → 2 ≤ x / 16 % 4 → eqb (x / 16 % 4) 3 ≡ seems_constant_tail (tree_at f s m)
    unfolding noted_tail_at
    kt l r z = rw x_two (rd.held.store.pairs m l r rd.node rd.old z).known_tail

    pub remembered : (t : List ℕ) → t ≡ note s m b → Answered f s t c b (seems_constant (tree_at f s m))
    unfolding note x
    remembered t et = rw et (record { answer = e; grown = mark_grown f s c m x rd x_kind kc kt })

  module _ (e : b ≡ seems_constant_tail (tree_at f s m)) where
    y : ℕ
    y = get_or s m 0 % 16 + digit b * 16 + get_or s m 0 / 64 * 64

    y_kind : y % 4 ≡ get_or s m 0 % 4
    unfolding y
    y_kind = let d = digit_least b in omega arith

    y_one : y / 4 % 4 ≡ get_or s m 0 / 4 % 4
    unfolding y
    y_one = let d = digit_least b in omega arith

    y_two : y / 16 % 4 ≡ digit b
    unfolding y
    y_two = let d = digit_least b in omega arith

    yc : (l r : ℕ) → cell_at s m ≡ Pair l r → 2 ≤ y / 4 % 4 → eqb (y / 4 % 4) 3 ≡ seems_constant (tree_at f s m)
    unfolding noted_at
    yc l r z = rw y_one (rd.held.store.pairs m l r rd.node rd.old z).known

    yt : (l r : ℕ) → cell_at s m ≡ Pair l r → 2 ≤ y / 16 % 4 → eqb (y / 16 % 4) 3 ≡ seems_constant_tail (tree_at f s m)
    yt l r z h = rw y_two (digit_is b ∙ e)

    pub remembered_tail : (t : List ℕ) → t ≡ note_tail s m b → Answered f s t c b (seems_constant_tail (tree_at f s m))
    unfolding note_tail y
    remembered_tail t et = rw et (record { answer = e; grown = mark_grown f s c m y rd y_kind yc yt })

-- what is not an atom is a pair
pub pair_of : {A : Type 0} (s : List ℕ) (n : ℕ) → (cell_at s n ≡ Atom → ⊥) → ((l r : ℕ) → cell_at s n ≡ Pair l r → A) → A
pair_of {A} s n h k = go (cell_at s n) refl
  where
    go : (q : Cell) → cell_at s n ≡ q → A
    go (Pair l r) e = k l r e
    go Atom e = absurd (h e)

pub join_asks : (f s : List ℕ) (c : Charges) (n m : ℕ) → Joins f s c n m → (n + 13 + 1 < length s) × (m < 65536)
join_asks f s c n m j =
    let a : n + 15 ≤ c.end = pair_of s n j.is_pair (λ l r e. apart15 s n c.end j.upper.node j.upper.held.store.ends j.upper.old (cell_below s n l r e).kind) in
    let b : c.end + 10 ≤ c.top = j.upper.held.store.order in
    let d : c.top < 65536 = j.upper.held.store.top in
    let e : 65536 ≤ length s = j.upper.held.store.size in
    let o : m ≤ n = j.below in
    (omega arith, omega arith)

-- the pair n is told that m is the same
module _ (f s : List ℕ) (c : Charges) (n m : ℕ) (jn : Joins f s c n m) where
  jst : Store f s c.end c.top
  jst = jn.upper.held.store

  jkind : kind_at s n ≡ 2
  jkind = pair_of s n jn.is_pair (λ l r e. (cell_below s n l r e).kind)

  jend : n + 15 ≤ c.end
  jend = apart15 s n c.end jn.upper.node jst.ends jn.upper.old jkind

  jw : Writes s (put16 s (n + 13) m) (n + 13) (n + 15)
  jw = let e : n + 13 + 2 ≡ n + 15 = omega arith in rw e at (two s (n + 13) m)

  jat : num16 (put16 s (n + 13) m) (n + 13) ≡ m
  jat =
      let a : n + 15 ≤ c.end = jend in
      let b : c.end + 10 ≤ c.top = jst.order in
      let d : c.top < 65536 = jst.top in
      let e : 65536 ≤ length s = jst.size in
      let o : m ≤ n = jn.below in
      same16 s (n + 13) m (omega arith) (omega arith)

  -- a number that stands i into the record at j, below the place of the same node
  jnum : (j : ℕ) {A : Type 0} → Starts s j → (j ≤ n → A) → (n + 15 ≤ j → A) → A
  jnum j a x y = split n j (λ o. y (apart15 s n j jn.upper.node a o jkind)) x

  jskeleton : Skeleton s (put16 s (n + 13) m) c.end c.top
  unfolding kind_at
  jskeleton = record {
    long = jw.long;
    kinds = λ j a h. jnum j a (λ o. rw (jw.below j (omega arith))) (λ o. rw (jw.above j o));
    firsts = λ j a h. jnum j a (λ o. below16 jw (j + 1) (omega arith)) (λ o. above16 jw (j + 1) (omega arith));
    seconds = λ j a h. jnum j a (λ o. below16 jw (j + 3) (omega arith)) (λ o. above16 jw (j + 3) (omega arith));
    prints = λ j a h e. jnum j a (λ o. below64 jw (j + 5) (omega arith)) (λ o. above64 jw (j + 5) (omega arith));
    tops = λ i h. let a : n + 15 ≤ c.end = jend in let b : c.end + 10 ≤ c.top = jst.order in drop_above jw i (omega arith);
  }

  jbyte : (j : ℕ) → Starts s j → get_or (put16 s (n + 13) m) j 0 ≡ get_or s j 0
  jbyte j a = jnum j a (λ o. jw.below j (omega arith)) (λ o. jw.above j o)

  jre : (j l r : ℕ) → Starts s j → j < c.end → cell_at s j ≡ Pair l r → Remembers f s (put16 s (n + 13) m) j
  unfolding noted_at noted_tail_at
  jre j l r a h e =
      let i = cell_below s j l r e in
      let q : PairRight f s j l r = jst.pairs j l r a h e in
      whether j n
      (λ o. let z : num16 (put16 s (n + 13) m) (j + 13) ≡ m = rw o jat in record {
        known = rw (jbyte j a) q.known;
        known_tail = rw (jbyte j a) q.known_tail;
        same_node = rw z jn.lower.node;
        same_below = rw (z, o) jn.below;
        same_tree = rw (z, o) jn.tree;
      })
      (λ o. remembers_kept f s (put16 s (n + 13) m) c.end c.top jst jskeleton j l r a h e (jbyte j a)
      (split j n (λ u. let v : j + 15 ≤ n = apart15 s j n a jn.upper.node u i.kind in below16 jw (j + 13) (omega arith))
      (λ u. let d : n < j = omega arith in let v : n + 15 ≤ j = apart15 s n j jn.upper.node a d jkind in above16 jw (j + 13) (omega arith))))

  pub joined : (t : List ℕ) → t ≡ put16 s (n + 13) m → Grown f s t c c
  joined t et = rw et (grown_notes f s (put16 s (n + 13) m) c jn.upper.held jskeleton (store_kept f s (put16 s (n + 13) m) c.end c.top jst jskeleton jre))
