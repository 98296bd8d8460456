-- What was written is read back, and no two trees have one written form. Assumes nothing.
use Prim.Native.Nat.{ℕ, zero, suc, ◌+◌, ◌/◌, ◌^◌, ◌≤◌, ◌<◌}
use mathlib.Core.Path.{◌≡◌, refl, sym, ◌∙◌, subst, ap}
use mathlib.Core.List.{List, [], ◌∷◌, ◌++◌, append_assoc, append-nil}
use mathlib.Core.Bool.{true, false}
use mathlib.Core.Logic.{◌≢◌}
use lib.Dec.{eqb, ltb}
use lib.ListN.{length, length-append}
use native.Mathlib.Omega.{arith}
use native.Mathlib.Nat.{add-zero, zero-add}
use Rattle.refusals.specs.declared.Refusal.TheVariants.{AtomLong}
use Rattle.meaning.specs.Tree.{Tree, atom, pair, nil, byte, is_empty}
use Rattle.meaning.specs.Limits.{form_limit, unit_limit, pair_cost, atom_cost}
use Rattle.meaning.specs.Meter.{M, done, ◌>>=◌, ◌>>◌, give, hold}
use Rattle.meaning.specs.Form.{write_length, write_atom, write, Reading, Bounds, limits, no_limits, next, first_of, spend, length_from, body, needs_prefix, read_long, read_atom, read, at_end, read_whole, read_form, ReadsAs, EveryAtom, Narrow, Writable, tree_cost}
use Rattle.meaning.proofs.Tests.{on_bool, leb_true, leb_no, eqb_sound}
use Rattle.meaning.proofs.MeterLaws.{bind_at, seq_at}
use Rattle.meaning.proofs.Atoms.{atoms_map, Fits, UnitsFit, narrow_fits, narrow_writable}
use Rattle.meaning.proofs.ReaderLaws.{at, hold_at, spend_at, body_at, digits}
use Rattle.meaning.proofs.Prefix.{bytes_more, from, size_of, write_sized, prefix_at, first_long, first_short, prefixed, ltb_yes, ltb_no}

eqb_off : (m n : ℕ) → m ≢ n → eqb m n ≡ false
eqb_off m n h = on_bool (eqb m n) (λ e. absurd (h (eqb_sound m n e))) (λ e. e)

-- a pair's parts, and its charge
abbrev pub two_parts : Bounds → ℕ → M Reading Tree
two_parts b k = read b k >>= λ l. read b k >>= λ r. spend b pair_cost >> give (pair l r)

-- ---- an atom

pub written_atom : (bs : List ℕ) → 0 < length (write_atom bs)
unfolding write_atom
written_atom [] = omega arith
written_atom (x ∷ []) = on_bool (ltb x 0x80) (λ e. rw (e, write_atom) (omega arith)) (λ e. rw (e, write_atom) (omega arith))
written_atom (x ∷ y ∷ bs) = let e = length-append (write_length (length (x ∷ y ∷ bs))) (x ∷ y ∷ bs) in omega arith

module _ (b : Bounds) where
  -- a prefix that says the length of bs, and then bs
  long_at : (p : ℕ) (bs tail rest : List ℕ) (u : ℕ) → length_from p (at tail u) ≡ done (length bs) (at (bs ++ rest) u) → b.atom_fits (length bs) ≡ true
      → b.units_fit (u + atom_cost bs) ≡ true → read_long b p (at tail u) ≡ done (atom bs) (at rest (u + atom_cost bs))
  unfolding read_long give
  long_at p bs tail rest u h fits room =
      bind_at (length_from p) _ (at tail u) (at (bs ++ rest) u) (length bs) h
      ∙ seq_at (hold (b.atom_fits (length bs)) AtomLong) _ (at (bs ++ rest) u) (at (bs ++ rest) u) tt (hold_at _ AtomLong _ fits)
      ∙ bind_at (body (length bs)) _ (at (bs ++ rest) u) (at rest u) bs (body_at bs rest u)
      ∙ seq_at (spend b (atom_cost bs)) _ (at rest u) (at rest (u + atom_cost bs)) tt (spend_at b _ rest u room)

  -- a first byte that starts no pair
  leaf : (k p : ℕ) (tail : List ℕ) (u : ℕ) → p ≢ 0xff → read b (suc k) (at (p ∷ tail) u) ≡ read_atom b p (at tail u)
  unfolding read next first_of
  leaf k p tail u h = bind_at next (λ p. elim (eqb p 0xff) [ true ↦ two_parts b k | false ↦ read_atom b p ]) (at (p ∷ tail) u) (at tail u) p refl ∙ rw (eqb_off p 0xff h)

  -- a byte below 80 is an atom by itself
  byte_at : (k x : ℕ) (rest : List ℕ) (u : ℕ) → x < 0x80 → b.units_fit (u + 5) ≡ true → read b (suc k) (at (x ∷ rest) u) ≡ done (byte x) (at rest (u + 5))
  unfolding read_atom give
  byte_at k x rest u h room =
      let ne : x ≢ 0xff = omega arith in
      leaf k x rest u ne
      ∙ rw (leb_true (suc x) 0x80 h, read_atom) (seq_at (spend b 5) (give (byte x)) (at rest u) (at rest (u + 5)) tt (spend_at b 5 rest u room))

  -- any other atom has its prefix before it
  prefixed_at : (k : ℕ) (bs rest : List ℕ) (u : ℕ) → needs_prefix bs ≡ true → Fits b bs → length bs < 2 ^ 34 → b.units_fit (u + atom_cost bs) ≡ true
      → read b (suc k) (at (write_atom bs ++ rest) u) ≡ done (atom bs) (at rest (u + atom_cost bs))
  unfolding read_atom Fits
  prefixed_at k bs rest u np fits short room =
      let (w, pos) = prefixed bs np in
      let (z, says) = size_of (length bs) short in
      let p : ℕ = from z + length bs / 256 ^ bytes_more z in
      let ds : List ℕ = digits (bytes_more z) (length bs) in
      let long : 0x80 < p = first_long z (length bs) says pos in
      let low : p < 0xff = first_short z (length bs) says in
      let not_pair : p ≢ 0xff = omega arith in
      let not_nil : p ≢ 0x80 = omega arith in
      ap (λ l. read b (suc k) (at (l ++ rest) u)) (w ∙ ap (◌++ bs) (write_sized z (length bs) says))
      ∙ ap (λ l. read b (suc k) (at (p ∷ l) u)) (append_assoc ds bs rest)
      ∙ leaf k p (ds ++ (bs ++ rest)) u not_pair
      ∙ rw (leb_no (suc p) 0x80 (omega arith), eqb_off p 0x80 not_nil, read_atom)
      (long_at p bs (ds ++ (bs ++ rest)) rest u (prefix_at z (length bs) (bs ++ rest) u says) (fits np) room)

  atom_at : (k : ℕ) (bs rest : List ℕ) (u : ℕ) → Fits b bs → length bs < 2 ^ 34 → b.units_fit (u + atom_cost bs) ≡ true
      → read b (suc k) (at (write_atom bs ++ rest) u) ≡ done (atom bs) (at rest (u + atom_cost bs))
  unfolding write_atom atom_cost needs_prefix read read_atom next first_of give
  atom_at k [] rest u fits short room = ap (λ c. done nil (at rest c)) (sym (add-zero u))
  atom_at k (x ∷ []) rest u fits short room =
      on_bool (ltb x 0x80)
      (λ e. let w : write_atom (x ∷ []) ≡ x ∷ [] = rw (e, write_atom) in ap (λ l. read b (suc k) (at (l ++ rest) u)) w ∙ byte_at k x rest u (ltb_yes x _ e) room)
      (λ e. prefixed_at k (x ∷ []) rest u (leb_true 0x80 x (ltb_no x _ e)) fits short room)
  atom_at k (x ∷ y ∷ bs) rest u fits short room = prefixed_at k (x ∷ y ∷ bs) rest u refl fits short room

  -- ---- a tree

  -- of t's written form the reader has t, goes on behind it, and has charged what t costs
  pub read_write : (t : Tree) (k : ℕ) (rest : List ℕ) (u : ℕ) → EveryAtom (Fits b) t → Writable t → UnitsFit b (u + tree_cost t) → length (write t) ≤ k
      → read b k (at (write t ++ rest) u) ≡ done t (at rest (u + tree_cost t))
  unfolding write EveryAtom Writable tree_cost UnitsFit read next first_of give
  read_write (atom bs) zero rest u fits short room h = let k = written_atom bs in absurd (omega arith)
  read_write (atom bs) (suc k) rest u fits short room h = atom_at k bs rest u fits short (room _ (omega arith))
  read_write (pair l r) zero rest u fits short room h = absurd (omega arith)
  read_write (pair l r) (suc k) rest u fits short room h =
      let e : length (write l ++ write r) ≡ length (write l) + length (write r) = length-append (write l) (write r) in
      let h' : suc (length (write l ++ write r)) ≤ suc k = h in
      let i = read_write l k (write r ++ rest) u fits.0 short.0 (λ m n. room m (omega arith)) (omega arith) in
      let j = read_write r k rest (u + tree_cost l) fits.1 short.1 (λ m n. room m (omega arith)) (omega arith) in
      ap (λ z. read b (suc k) (at (0xff ∷ z) u)) (append_assoc (write l) (write r) rest)
      ∙ bind_at (read b k) (λ l. read b k >>= λ r. spend b pair_cost >> give (pair l r)) _ _ l i
      ∙ bind_at (read b k) (λ r. spend b pair_cost >> give (pair l r)) _ _ r j
      ∙ seq_at (spend b pair_cost) (give (pair l r)) (at rest (u + tree_cost l + tree_cost r)) (at rest (u + tree_cost l + tree_cost r + pair_cost)) tt
      (spend_at b pair_cost rest (u + tree_cost l + tree_cost r) (room _ (omega arith)))
      ∙ ap (λ c. done (pair l r) (at rest c)) sums
    where
      sums : u + tree_cost l + tree_cost r + pair_cost ≡ u + (tree_cost l + tree_cost r + pair_cost)
      sums = omega arith

  -- the whole of t's written form, and no more
  pub whole_write : (t : Tree) (u : ℕ) → EveryAtom (Fits b) t → Writable t → UnitsFit b (u + tree_cost t) → read_whole b (write t) u ≡ done t (at [] (u + tree_cost t))
  unfolding read_whole at_end give is_empty hold
  whole_write t u fits short room =
      bind_at (read b (length (write t))) (λ t. at_end >> give t) (at (write t) u) (at [] (u + tree_cost t)) t
      (ap (λ l. read b (length (write t)) (at l u)) (sym (append-nil (write t))) ∙ read_write t (length (write t)) [] u fits short room (omega arith))

-- Within 01's limits a tree that fits them is read back from its written form, at what it costs, from any units on
pub form_write_from : (t : Tree) (u : ℕ) → length (write t) ≤ form_limit → Narrow t → u + tree_cost t ≤ unit_limit
    → read_form (write t) u ≡ done t (at [] (u + tree_cost t))
unfolding read_form UnitsFit
form_write_from t u short narrow cheap =
    rw (leb_true _ _ short, read_form)
    (whole_write limits t u (narrow_fits t narrow) (narrow_writable t narrow) (λ m n. leb_true m unit_limit (omega arith)))

-- and from none.
pub form_write : (t : Tree) → length (write t) ≤ form_limit → Narrow t → tree_cost t ≤ unit_limit
    → read_form (write t) 0 ≡ done t (record { left = []; units = tree_cost t })
form_write t short narrow cheap = form_write_from t 0 short narrow (omega arith) ∙ ap (λ c. done t (at [] c)) (zero-add (tree_cost t))

-- Without limits every tree is read back from its written form, where a prefix can say each length.
pub reads_as_written : (t : Tree) → Writable t → ReadsAs (write t) t
unfolding ReadsAs Fits UnitsFit Writable
reads_as_written t h = (at [] (0 + tree_cost t), whole_write no_limits t 0 (atoms_map (λ b k _. refl) t h) h (λ m n. refl))

-- Bytes read as one tree only,
pub one_tree : (bs : List ℕ) (t u : Tree) → ReadsAs bs t → ReadsAs bs u → t ≡ u
unfolding ReadsAs
one_tree bs t u (r, h) (s, k) = cc

-- so that no two trees have the same written form.
pub write_injective : (t u : Tree) → Writable t → Writable u → write t ≡ write u → t ≡ u
write_injective t u h k e = one_tree (write t) t u (reads_as_written t h) (subst (λ bs. ReadsAs bs u) (sym e) (reads_as_written u k))
