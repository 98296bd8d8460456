-- Copying bytes, and a new atom at the end of the records.
use Rattle.std.proofs.Common.{◌≡◌, ℕ, ◌+◌, ◌-◌, ◌<◌, ◌≤◌, List, [], ◌++◌, length, get_or, take, drop, set, sym, refl, ap, ◌∙◌, arith, rules, length-append, length-take, length-drop, length-take-le, get_or-set_same, ne_eqb}
use borrow.Rule.Slice.PartMut.{put_mid}
use Rattle.std.proofs.lemmas.List.{places, drop_at, take_at}
use Rattle.meaning.specs.Tree.{atom}
use Rattle.store.specs.declared.Cell.TheVariants.{Pair, Atom}
use Rattle.store.specs.declared.Charges.{Charges}
use Rattle.store.specs.Cells.{num16, kind_at, size_at, cell_at, bytes_at, put16, atom_put, Room, Starts, Writes, Copied}
use Rattle.store.specs.Store.{Store, Held, Paid, MadeRight, atom_most}
use Rattle.store.specs.Makers.{Put, Begun}
use Rattle.store.proofs.Laws.{cell_atom, bytes_form, bytes_made}
use Rattle.store.proofs.Writes.{both, one, two, below16, above16, drop_above, same16}
use Rattle.store.proofs.Places.{apart5, node_zero, node_next, split}
use Rattle.store.proofs.Trees.{tree_atom}
use Rattle.store.proofs.Append.{record_room, here, appended, after, put_after, room_paid}

-- bytes copied over a part
pub copied : (s ys b : List ℕ) (a k : ℕ) → a + length b ≤ length s → k ≡ length b → ys ≡ b → Copied s (put_mid a k s ys) a b
copied s ys b a k h e ey =
    let ek : length ys ≡ k = ap length ey ∙ sym e in
    record {
      writes = record {
        long = simp (length-append, length-take, length-drop) (omega arith);
        below = λ j hj. search (rules, places);
        above = λ j hj. search (rules, places);
      };
      bytes =
          let la : length (take a s) ≡ a = length-take-le a s (omega arith) in
          rw (drop_at (take a s) (ys ++ drop k (drop a s)) a la, ey) (take_at b (drop k (drop a s)) (length b) refl);
    }

-- the bytes of a new atom
module _ (s : List ℕ) (n k a z : ℕ) where
  pub atom_writes : Writes s (atom_put s n k a z) n (n + 5)
  unfolding atom_put
  atom_writes = both n (n + 5) (both n (n + 5) (two s (n + 1) a) (two (put16 s (n + 1) a) (n + 3) z) (omega arith) (omega arith) (omega arith) (omega arith)) (one (put16 (put16 s (n + 1) a) (n + 3) z) n k) (omega arith) (omega arith) (omega arith) (omega arith)

  pub record AtomBytes (t : List ℕ) : Type 0 where
    pub kind : get_or t n 0 ≡ k
    pub at : num16 t (n + 1) ≡ a
    pub size : num16 t (n + 3) ≡ z

  pub atom_bytes : n + 5 ≤ length s → a < 65536 → z < 65536 → AtomBytes (atom_put s n k a z)
  unfolding atom_put
  atom_bytes h ha hz =
      let v : List ℕ = put16 s (n + 1) a in
      let y : List ℕ = put16 v (n + 3) z in
      let zv : length v ≡ length s = (two s (n + 1) a).long in
      let zy : length y ≡ length v = (two v (n + 3) z).long in
      let w : Writes y (set y n k) n (n + 1) = one y n k in
      record {
        kind = get_or-set_same y n k 0 (omega arith);
        at = above16 w (n + 1) (omega arith) ∙ below16 (two v (n + 3) z) (n + 1) (omega arith) ∙ same16 s (n + 1) a (omega arith) ha;
        size = above16 w (n + 3) (omega arith) ∙ same16 v (n + 3) z (omega arith) hz;
      }

pub atom_cell : (t : List ℕ) (n k : ℕ) → get_or t n 0 ≡ k → k < 2 → cell_at t n ≡ Atom
atom_cell t n k e h = sym (cell_atom t n (λ d. omega arith))

pub atom_kind : (t : List ℕ) (n k : ℕ) → get_or t n 0 ≡ k → k < 2 → kind_at t n ≡ k
unfolding kind_at
atom_kind t n k e h = omega arith

pub atom_size : (t : List ℕ) (n k : ℕ) → get_or t n 0 ≡ k → k < 2 → size_at t n ≡ 5
unfolding size_at
atom_size t n k e h = let d : kind_at t n ≡ k = atom_kind t n k e h in let o : kind_at t n ≡ 2 → ⊥ = λ y. omega arith in simp (ne_eqb _ _ o)

-- a new atom of kind k at the end, its z bytes at a, the made bytes now from top' on
module _ (f s t : List ℕ) (c : Charges) (top' k a z : ℕ) (h : Held f s c) (w : Writes s t c.end c.top) (b : AtomBytes s c.end k a z t) (hk : k < 2)
    (le : top' ≤ c.top) (paid : Paid c (5 + (c.top - top'))) (made : k ≡ 1 → (top' ≤ a) × (a + z ≤ 65536)) (short : z ≤ atom_most) where
  new_made : kind_at t c.end ≡ 1 → MadeRight t top' c.end
  new_made e =
      let y : kind_at t c.end ≡ k = atom_kind t c.end k b.kind hk in
      let v = made (omega arith) in
      let e₁ : num16 t (c.end + 1) ≡ a = b.at in
      let e₃ : num16 t (c.end + 3) ≡ z = b.size in
      record { above = omega arith; within = omega arith }

  cell : cell_at t c.end ≡ Atom
  cell = atom_cell t c.end k b.kind hk

  order : c.end + 5 + 10 ≤ top'
  order = let o : c.end + (5 + (c.top - top')) + 10 ≤ c.top = room_paid (5 + (c.top - top')) h paid in omega arith

  size : size_at t c.end ≡ 5
  size = atom_size t c.end k b.kind hk

  new_short : cell_at t c.end ≡ Atom → num16 t (c.end + 3) ≤ atom_most
  new_short e = let e₃ : num16 t (c.end + 3) ≡ z = b.size in omega arith

  new_store : Store f t (c.end + 5) top'
  new_store =
      let e₃ : cell_at t c.end ≡ Atom = cell in
      appended f s t c.end c.top h.store w top' 5 le order size (omega arith) new_made new_short
      (λ l r e₁. absurd (let z : ◌≡◌ {A = ℕ} 0 1 = cc in omega arith))

  here_it : Starts t c.end
  here_it =
      let e₃ : cell_at t c.end ≡ Atom = cell in
      here f s t c.end c.top h.store w top' 5 le order size (omega arith) new_made new_short
      (λ l r e₁. absurd (let z : ◌≡◌ {A = ℕ} 0 1 = cc in omega arith))

  pub put_any : (x : List ℕ) → bytes_at f t c.end ≡ x → Put f s t c (after c 5 top') (atom x)
  put_any x ex =
      put_after f s t c h w top' 5 paid le new_store (atom x) here_it (omega arith)
      (tree_atom f t c.end cell ∙ ap atom ex)

-- after the bytes are copied there is room for the record
pub copied_room : (f s s₁ b : List ℕ) (c : Charges) (n a : ℕ) → Copied s s₁ a b → Held f s c → Paid c (5 + length b) → n ≡ c.end → Room s₁ n
copied_room f s s₁ b c n a l h p e =
    let r : Room s n = record_room f s c n (5 + length b) h p e (omega arith) in
    let y : length s₁ ≡ length s = l.writes.long in
    record { node = r.node; size = omega (arith, r.size) }

pub fits_below : (f s b : List ℕ) (c : Charges) → Held f s c → Paid c (5 + length b) → length b ≤ c.top
fits_below f s b c h p = let o : c.end + (5 + length b) + 10 ≤ c.top = room_paid (5 + length b) h p in omega arith

-- what append_form_atom returns
pub put_form : (f s t : List ℕ) (c : Charges) (a z : ℕ) → t ≡ atom_put s c.end 0 a z → Held f s c → Paid c 5 → a < 65536 → z ≤ atom_most → Put f s t c (after c 5 c.top) (atom (take z (drop a f)))
put_form f s t c a z e h paid ha hz =
    let w : Writes s t c.end (c.end + 5) = rw e (atom_writes s c.end 0 a z) in
    let u : 65536 ≤ length s = h.store.size in
    let v : c.top < 65536 = h.store.top in
    let o : c.end + 5 + 10 ≤ c.top = room_paid 5 h paid in
    let b : AtomBytes s c.end 0 a z t = rw e (atom_bytes s c.end 0 a z (omega arith) ha (omega arith)) in
    let e₁ : num16 t (c.end + 1) ≡ a = b.at in
    let e₃ : num16 t (c.end + 3) ≡ z = b.size in
    let e₀ : get_or t c.end 0 ≡ 0 = b.kind in
    let e₅ : 5 + (c.top - c.top) ≡ 5 = omega arith in
    put_any f s t c c.top 0 a z h (record { long = w.long; below = w.below; above = λ j hj. w.above j (omega arith) }) b (omega arith) (omega arith) (rw e₅ paid) (λ y. absurd (omega arith)) hz
    (take z (drop a f)) (sym (bytes_form f t (take z (drop a f)) c.end a z refl (sym e₁) (sym e₃) (λ y. omega arith)))

-- what append_atom returns
pub put_made : (f s s₁ t b : List ℕ) (c : Charges) (a : ℕ) → t ≡ atom_put s₁ c.end 1 a (length b) → Copied s s₁ a b → a ≡ c.top - length b → Held f s c → Paid c (5 + length b) → length b ≤ atom_most → Put f s t c (after c 5 a) (atom b)
put_made f s s₁ t b c a e l ea h paid short =
    let o : c.end + (5 + length b) + 10 ≤ c.top = room_paid (5 + length b) h paid in
    let w₁ : Writes s s₁ a (a + length b) = l.writes in
    let w₂ : Writes s₁ t c.end (c.end + 5) = rw e (atom_writes s₁ c.end 1 a (length b)) in
    let w : Writes s t c.end c.top = both c.end c.top w₁ w₂ (omega arith) (omega arith) (omega arith) (omega arith) in
    let u : 65536 ≤ length s = h.store.size in
    let v : c.top < 65536 = h.store.top in
    let zz : length s₁ ≡ length s = w₁.long in
    let y : AtomBytes s₁ c.end 1 a (length b) t = rw e (atom_bytes s₁ c.end 1 a (length b) (omega arith) (omega arith) (omega arith)) in
    let e₁ : num16 t (c.end + 1) ≡ a = y.at in
    let e₃ : num16 t (c.end + 3) ≡ length b = y.size in
    let e₀ : get_or t c.end 0 ≡ 1 = y.kind in
    let e₅ : 5 + (c.top - a) ≡ 5 + length b = omega arith in
    let eb : b ≡ take (length b) (drop a t) = sym (rw (drop_above w₂ a (omega arith)) l.bytes) in
    put_any f s t c a 1 a (length b) h w (record { kind = e₀; at = e₁; size = e₃ }) (omega arith) (omega arith) (rw e₅ paid) (λ o. (omega arith, omega arith)) short
    b (sym (bytes_made f t b c.end a (length b) eb (sym e₁) (sym e₃) (omega arith)))

abbrev pub fresh : Charges
fresh = record { units = 0; free = 5; end = 5; top = 65535 }

-- what start leaves
pub begun : (f s t : List ℕ) → t ≡ atom_put s 0 0 0 0 → 65536 ≤ length s → Begun f t fresh
unfolding Paid
begun f s t e h =
    let w : Writes s t 0 5 = rw e (atom_writes s 0 0 0 0) in
    let zz : length t ≡ length s = w.long in
    let b : AtomBytes s 0 0 0 0 t = rw e (atom_bytes s 0 0 0 0 (omega arith) (omega arith) (omega arith)) in
    let e₁ : num16 t 1 ≡ 0 = b.at in
    let e₃ : num16 t 3 ≡ 0 = b.size in
    let e₀ : get_or t 0 0 ≡ 0 = b.kind in
    let zero_node : Starts t 0 = node_zero t in
    let five : Starts t (0 + 5) = node_next t 0 5 zero_node (atom_size t 0 0 e₀ (omega arith)) in
    let last : (m : ℕ) → Starts t m → m < 5 → m ≡ 0 = λ m y d. split 0 m (λ o. absurd (let v : 0 + 5 ≤ m = apart5 t 0 m zero_node y o in omega arith)) (λ o. omega arith) in
    record {
      ready = record {
        held = record {
          store = record {
            size = omega arith;
            order = omega arith;
            top = omega arith;
            ends = five;
            made = λ m y d e₂. absurd (let v : m ≡ 0 = last m y d in let x : kind_at t 0 ≡ 1 = rw v at e₂ in let k : kind_at t 0 ≡ 0 = atom_kind t 0 0 e₀ (omega arith) in omega arith);
            short = λ m y d e₂. let v : m ≡ 0 = last m y d in rw v (omega arith);
            pairs = λ m l r y d e₂. absurd (let v : m ≡ 0 = last m y d in let x : cell_at t 0 ≡ Pair l r = rw v at e₂ in let k : cell_at t 0 ≡ Atom = atom_cell t 0 0 e₀ (omega arith) in let z : ◌≡◌ {A = ℕ} 0 1 = cc in omega arith);
          };
          begun = omega arith;
          nil_at = tree_atom f t 0 (atom_cell t 0 0 e₀ (omega arith)) ∙ ap atom (sym (bytes_form f t [] 0 0 0 refl (sym e₁) (sym e₃) (λ y. omega arith)));
          units = omega arith;
          free = omega arith;
          paid = omega arith;
        };
        node = zero_node;
        old = omega arith;
      };
      units = refl;
      free = refl;
    }
