-- What is read is no shorter than the written form of the tree that it gives, and is that form where it is no longer. Assumes nothing.
use Prim.Native.Nat.{ℕ, zero, suc, ◌+◌, ◌^◌, ◌≤◌, ◌<◌}
use mathlib.Core.Path.{◌≡◌, refl, sym, ◌∙◌, subst, ap, ap₂}
use mathlib.Core.List.{List, [], ◌∷◌, ◌++◌, append-nil}
use mathlib.Core.Bool.{true, false}
use lib.Dec.{eqb, leb, ltb}
use lib.ListN.{length}
use native.Mathlib.Omega.{arith}
use native.Mathlib.Nat.{add-zero, zero-add}
use Rattle.refusals.specs.declared.Refusal.TheVariants.{AtomLong, BytesAfter}
use Rattle.meaning.specs.Tree.{Tree, atom, pair, nil, byte, is_empty}
use Rattle.meaning.specs.Limits.{form_limit, unit_limit, pair_cost, atom_cost}
use Rattle.meaning.specs.Meter.{M, done, ◌>>=◌, ◌>>◌, give, hold}
use Rattle.meaning.specs.Form.{write_length, write_atom, write, Reading, Bounds, limits, next, spend, length_from, body, needs_prefix, read_long, read_atom, read, at_end, read_whole, read_form, EveryAtom, Narrow, Writable, tree_cost, IsBytes}
use Rattle.meaning.proofs.Tests.{on_bool, not_false, leb_yes, leb_true, eqb_sound}
use Rattle.meaning.proofs.AreBytes.{bytes_none, bytes_cons}
use Rattle.meaning.proofs.NoShorter.{NoShorter, exactly, both}
use Rattle.meaning.proofs.TreeLaws.{is_empty_sound}
use Rattle.meaning.proofs.MeterLaws.{not_stop, bind_inv, seq_inv}
use Rattle.meaning.proofs.Atoms.{Fits, fits_narrow}
use Rattle.meaning.proofs.ReaderLaws.{at, Took, took_none, took_then, took_as, took_bytes, taken_bytes, gave, held, next_inv, spend_inv, body_inv}
use Rattle.meaning.proofs.Prefix.{prefix_inv, behind, ltb_yes, ltb_no}
use Rattle.meaning.proofs.WriteRead.{two_parts}

-- of bytes that were read as u: they are no shorter than u's written form, a prefix can say each length, and u's atoms are bytes
pub record Spelled (u : Tree) (bs : List ℕ) : Type 0 where
  pub least : NoShorter (write u) bs
  pub writable : Writable u
  pub atoms : EveryAtom IsBytes u

-- from s to t, with `before` in hand, u was read: what was taken of s is, if bytes, the rest of a spelling of u
pub record ReadFrom (b : Bounds) (before : List ℕ) (u : Tree) (s t : Reading) : Type 0 where
  pub taken : List ℕ
  pub took : Took taken (tree_cost u) s t
  pub fits : EveryAtom (Fits b) u
  pub allowed : b.units_fit s.units ≡ true → b.units_fit t.units ≡ true
  pub spelled : IsBytes s.left → Spelled u (before ++ taken)

module _ (b : Bounds) where
  -- what is left to do behind a length, and behind a body
  abbrev to_end : List ℕ → M Reading Tree
  to_end bs = spend b (atom_cost bs) >> give (atom bs)

  abbrev to_body : ℕ → M Reading Tree
  to_body n = hold (b.atom_fits n) AtomLong >> (body n >>= to_end)

  -- an atom behind its prefix, from its pieces
  atom_from : {p n : ℕ} {ds bs : List ℕ} {u : Tree} {s s1 s2 s3 s4 t : Reading} → Took ds 0 s s1 → (IsBytes s.left → NoShorter (write_length n) (p ∷ ds) × (n < 2 ^ 34))
      → (b.atom_fits n ≡ true) × (s1 ≡ s2) → Took bs 0 s2 s3 × (length bs ≡ n) → Took [] (atom_cost bs) s3 s4 × (b.units_fit s4.units ≡ true)
      → (atom bs ≡ u) × (s4 ≡ t) → ReadFrom b (p ∷ []) u s t
  unfolding write EveryAtom Fits Writable tree_cost
  atom_from {p} {n} {ds} {bs} {s} {s2} {t} t1 are (fit, j2) (t3, l3) (t4, k4) (i, j4) =
      let sum : 0 + (0 + (0 + (atom_cost bs + 0))) ≡ atom_cost bs = omega arith in
      let end : ds ++ (bs ++ []) ≡ ds ++ bs = ap (ds ++◌) (append-nil bs) in
      subst (λ u. ReadFrom b (p ∷ []) u s t) i (record {
        taken = ds ++ bs;
        took = took_as end sum (took_then t1 (took_then (took_none j2) (took_then t3 (took_then t4 (took_none j4)))));
        fits = λ _. subst (λ n. b.atom_fits n ≡ true) (sym l3) fit;
        allowed = λ _. subst (λ (z : Reading). b.units_fit z.units ≡ true) j4 k4;
        spelled = λ y. let (e, short) = are y in record {
          least = behind bs (p ∷ ds) (subst (λ n. NoShorter (write_length n) (p ∷ ds)) (sym l3) e);
          writable = subst (λ n. n < 2 ^ 34) (sym l3) short;
          atoms = taken_bytes t3 (subst (λ (z : Reading). IsBytes z.left) j2 (took_bytes t1 y));
        };
      })

  long_inv : (p : ℕ) (u : Tree) (s t : Reading) → 0x80 ≤ p → read_long b p s ≡ done u t → ReadFrom b (p ∷ []) u s t
  unfolding read_long
  long_inv p u s t lo h =
      let (n, s1, p1, q1) = bind_inv (length_from p) to_body s t u h in
      let (x2, s2, p2, q2) = seq_inv (hold (b.atom_fits n) AtomLong) (body n >>= to_end) s1 t u q1 in
      let (bs, s3, p3, q3) = bind_inv (body n) to_end s2 t u q2 in
      let (x4, s4, p4, q4) = seq_inv (spend b (atom_cost bs)) (give (atom bs)) s3 t u q3 in
      let (ds, t1, are) = prefix_inv p n s s1 lo p1 in
      atom_from {p = p} {n = n} {ds = ds} {bs = bs} {u = u} {s = s} {s1 = s1} {s2 = s2} {s3 = s3} {s4 = s4} {t = t}
      t1 are (held _ AtomLong s1 s2 x2 p2) (body_inv n bs s2 s3 p3) (spend_inv b (atom_cost bs) s3 s4 x4 p4) (gave (atom bs) u s4 t q4)

  byte_from : {p : ℕ} {u : Tree} {s s1 t : Reading} → ltb p 0x80 ≡ true → Took [] 5 s s1 × (b.units_fit s1.units ≡ true) → (byte p ≡ u) × (s1 ≡ t) → ReadFrom b (p ∷ []) u s t
  unfolding write write_atom EveryAtom Fits Writable tree_cost atom_cost needs_prefix
  byte_from {p} {s} {t} e (t1, k1) (i, j) = subst (λ u. ReadFrom b (p ∷ []) u s t) i (record {
    taken = [];
    took = took_as refl (add-zero 5) (took_then t1 (took_none j));
    fits = λ k. let i = leb_yes 0x80 p k in let l = ltb_yes p 0x80 e in absurd (omega arith);
    allowed = λ _. subst (λ (z : Reading). b.units_fit z.units ≡ true) j k1;
    spelled = λ y. record {
      least = exactly (rw (e, write_atom));
      writable = omega arith;
      atoms = let l = ltb_yes p 0x80 e in bytes_cons p [] (omega arith) bytes_none;
    };
  })

  nil_from : {p : ℕ} {u : Tree} {s t : Reading} → p ≡ 0x80 → (nil ≡ u) × (s ≡ t) → ReadFrom b (p ∷ []) u s t
  unfolding write write_atom EveryAtom Fits Writable tree_cost atom_cost needs_prefix
  nil_from {p} {s} {t} e (i, j) = subst (λ u. ReadFrom b (p ∷ []) u s t) i (record {
    taken = [];
    took = took_none j;
    fits = not_false;
    allowed = subst (λ (z : Reading). b.units_fit s.units ≡ true → b.units_fit z.units ≡ true) j (λ k. k);
    spelled = λ y. record { least = exactly (ap (◌∷ []) e); writable = omega arith; atoms = bytes_none };
  })

  atom_inv : (p : ℕ) (u : Tree) (s t : Reading) → read_atom b p s ≡ done u t → ReadFrom b (p ∷ []) u s t
  unfolding read_atom
  atom_inv p u s t h =
      on_bool (ltb p 0x80)
      (λ e.
      let (x, s1, p1, q1) = seq_inv (spend b 5) (give (byte p)) s t u (rw (e, read_atom) at h) in
      byte_from e (spend_inv b 5 s s1 x p1) (gave (byte p) u s1 t q1))
      (λ e. on_bool (eqb p 0x80)
      (λ f. nil_from (eqb_sound p 0x80 f) (gave nil u s t (rw (e, f, read_atom) at h)))
      (λ f. long_inv p u s t (ltb_no p 0x80 e) (rw (e, f, read_atom) at h)))

  -- ---- a tree

  pair_from : {p : ℕ} {l r u : Tree} {s s1 s2 s3 s4 t : Reading} → p ≡ 0xff → Took (p ∷ []) 0 s s1 → ReadFrom b [] l s1 s2 → ReadFrom b [] r s2 s3
      → Took [] pair_cost s3 s4 × (b.units_fit s4.units ≡ true) → (pair l r ≡ u) × (s4 ≡ t) → ReadFrom b [] u s t
  unfolding write EveryAtom Writable tree_cost
  pair_from {p} {l} {r} {s} {t} e t1 left right (t4, k4) (i, j) =
      let sum : 0 + (tree_cost l + (tree_cost r + (pair_cost + 0))) ≡ tree_cost l + tree_cost r + pair_cost = omega arith in
      subst (λ u. ReadFrom b [] u s t) i (record {
        taken = p ∷ (left.taken ++ right.taken);
        took = took_as (ap (λ z. p ∷ (left.taken ++ z)) (append-nil right.taken)) sum (took_then t1 (took_then left.took (took_then right.took (took_then t4 (took_none j)))));
        fits = (left.fits, right.fits);
        allowed = λ _. subst (λ (z : Reading). b.units_fit z.units ≡ true) j k4;
        spelled = λ y.
            let y1 = took_bytes t1 y in
            let w1 = left.spelled y1 in
            let w2 = right.spelled (took_bytes left.took y1) in
            record {
              least = both (exactly (ap (◌∷ []) e)) (both w1.least w2.least);
              writable = (w1.writable, w2.writable);
              atoms = (w1.atoms, w2.atoms);
            };
      })

  leaf_from : {p : ℕ} {u : Tree} {s s1 t : Reading} → Took (p ∷ []) 0 s s1 → ReadFrom b (p ∷ []) u s1 t → ReadFrom b [] u s t
  leaf_from {p} {u} {s} t1 r = record {
    taken = p ∷ r.taken;
    took = took_as refl (zero-add (tree_cost u)) (took_then t1 r.took);
    fits = r.fits;
    allowed = λ k. r.allowed (subst (λ n. b.units_fit n ≡ true) (sym (t1.paid ∙ add-zero s.units)) k);
    spelled = λ y. r.spelled (took_bytes t1 y);
  }

  -- what the reader takes, if bytes, is a spelling of what it gives, and it charges what that costs
  pub read_inv : (k : ℕ) (u : Tree) (s t : Reading) → read b k s ≡ done u t → ReadFrom b [] u s t
  unfolding read
  read_inv zero u s t h = not_stop h
  read_inv (suc k) u s t h =
      let (p, s1, p1, q1) = bind_inv next (λ p. elim (eqb p 0xff) [ true ↦ two_parts b k | false ↦ read_atom b p ]) s t u h in
      on_bool (eqb p 0xff)
      (λ e.
      let (l, s2, p2, q2) = bind_inv (read b k) (λ l. read b k >>= λ r. spend b pair_cost >> give (pair l r)) s1 t u (rw e at q1) in
      let (r, s3, p3, q3) = bind_inv (read b k) (λ r. spend b pair_cost >> give (pair l r)) s2 t u q2 in
      let (x, s4, p4, q4) = seq_inv (spend b pair_cost) (give (pair l r)) s3 t u q3 in
      pair_from {p = p} {l = l} {r = r} {u = u} {s = s} {s1 = s1} {s2 = s2} {s3 = s3} {s4 = s4} {t = t}
      (eqb_sound p 0xff e) (next_inv s s1 p p1) (read_inv k l s1 s2 p2) (read_inv k r s2 s3 p3) (spend_inv b pair_cost s3 s4 x p4) (gave (pair l r) u s4 t q4))
      (λ e. leaf_from (next_inv s s1 p p1) (atom_inv p u s1 t (rw e at q1)))

  -- a whole form: nothing is left
  pub whole_inv : (bs : List ℕ) (u : ℕ) (t : Tree) (s : Reading) → read_whole b bs u ≡ done t s → (s.left ≡ []) × ReadFrom b [] t (at bs u) s
  unfolding read_whole at_end
  whole_inv bs u t s h =
      let (v, s1, p1, q1) = bind_inv (read b (length bs)) (λ t. at_end >> give t) (at bs u) s t h in
      let (x, s2, p2, q2) = seq_inv at_end (give v) s1 s t q1 in
      go (read_inv (length bs) v (at bs u) s1 p1) (held (is_empty s1.left) BytesAfter s1 s2 x p2) (gave v t s2 s q2)
    where
      go : {v : Tree} {s1 s2 : Reading} → ReadFrom b [] v (at bs u) s1 → (is_empty s1.left ≡ true) × (s1 ≡ s2) → (v ≡ t) × (s2 ≡ s) → (s.left ≡ []) × ReadFrom b [] t (at bs u) s
      go {v} {s1} r (e, j) (i, k) =
          (subst (λ (z : Reading). z.left ≡ []) (j ∙ k) (is_empty_sound s1.left e), subst (λ v. ReadFrom b [] v (at bs u) s) i (subst (ReadFrom b [] v (at bs u)) (j ∙ k) r))

-- nothing is left of what was read whole, and the tree's cost was charged
pub whole_charged : (b : Bounds) (bs : List ℕ) (u : ℕ) (t : Tree) (s : Reading) → read_whole b bs u ≡ done t s → s ≡ at [] (u + tree_cost t)
whole_charged b bs u t s h = let (e, r) = whole_inv b bs u t s h in ap₂ at e r.took.paid

-- Bytes that are read as a tree, within any bounds, are a spelling of it.
pub whole_spelled : (b : Bounds) (bs : List ℕ) (u : ℕ) (t : Tree) (s : Reading) → read_whole b bs u ≡ done t s → IsBytes bs → Spelled t bs
whole_spelled b bs u t s h y =
    let (e, r) = whole_inv b bs u t s h in
    subst (Spelled t) (sym (r.took.bytes ∙ ap (r.taken ++◌) e ∙ append-nil r.taken)) (r.spelled y)

-- what a form within 01's limits reads as, from u units on
pub record FormRead (bs : List ℕ) (u : ℕ) (t : Tree) (s : Reading) : Type 0 where
  pub short : length bs ≤ form_limit
  pub narrow : Narrow t
  pub cheap : u ≤ unit_limit → u + tree_cost t ≤ unit_limit
  pub after : s ≡ record { left = []; units = u + tree_cost t }
  pub whole : read_whole limits bs u ≡ done t s

-- Within 01's limits: a form that is read is within them.
pub form_read : (bs : List ℕ) (u : ℕ) (t : Tree) (s : Reading) → read_form bs u ≡ done t s → FormRead bs u t s
unfolding read_form
form_read bs u t s h =
    on_bool (leb (length bs) form_limit)
    (λ e.
    let h' : read_whole limits bs u ≡ done t s = rw (e, read_form) at h in
    let (l, r) = whole_inv limits bs u t s h' in
    let after : s ≡ at [] (u + tree_cost t) = whole_charged limits bs u t s h' in
    record {
      short = leb_yes _ _ e;
      narrow = fits_narrow t r.fits;
      cheap = λ k. leb_yes _ _ (subst (λ (z : Reading). leb z.units unit_limit ≡ true) after (r.allowed (leb_true _ _ k)));
      after = after;
      whole = h';
    })
    (λ e. not_stop (rw (e, read_form) at h))
