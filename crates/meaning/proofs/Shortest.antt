-- What is written is the shortest; bytes that are read come back exactly when they were; and any spelling reads as the shortest does. Assumes nothing.
use Prim.Native.Nat.{ℕ, zero, suc, ◌+◌, ◌/◌, ◌%◌, ◌^◌, ◌≤◌, ◌<◌}
use mathlib.Core.Path.{◌≡◌, sym, ◌∙◌, ap, subst}
use mathlib.Core.List.{List, [], ◌∷◌}
use mathlib.Core.Logic.{◌↔◌}
use lib.Dec.{leb, eqb, ltb}
use lib.ListN.{length}
use native.Mathlib.Omega.{arith}
use Rattle.refusals.specs.declared.Refusal.{Refusal}
use Rattle.refusals.specs.declared.Refusal.TheVariants.{AtomLong, UnitsOut}
use Rattle.meaning.specs.Tree.{Tree, atom, pair, nil, byte}
use Rattle.meaning.specs.Limits.{unit_limit, pair_cost, atom_cost}
use Rattle.meaning.specs.Meter.{done, ◌>>◌, give, refuse}
use Rattle.meaning.specs.Form.{write_length, write_atom, write, Reading, limits, no_limits, next, length_from, body, spend, read_long, read_atom, read, at_end, read_whole, read_form, ReadsAs, IsBytes, Shortest, EveryAtom, Writable}
use Rattle.meaning.specs.Run.{worked_on, worked, run}
use Rattle.meaning.proofs.Tests.{on_bool}
use Rattle.meaning.proofs.AreBytes.{bytes_none, bytes_cons, bytes_both}
use Rattle.meaning.proofs.Unless.{Unless, same, off, unless_done, Alike, alike, alike_bind, alike_seq, alike_if, alike_hold}
use Rattle.meaning.proofs.ReaderLaws.{digits}
use Rattle.meaning.proofs.Prefix.{bytes_more, size_of, write_sized, first_short}
use Rattle.meaning.proofs.WriteRead.{form_write_from, reads_as_written, one_tree}
use Rattle.meaning.proofs.ReadWrite.{Spelled, whole_spelled, form_read}

-- ---- what is written of bytes is bytes

digits_bytes : (k n : ℕ) → IsBytes (digits k n)
unfolding digits
digits_bytes zero n = bytes_none
digits_bytes (suc k) n = bytes_cons (n / 256 ^ k % 256) (digits k n) (omega arith) (digits_bytes k n)

length_bytes : (n : ℕ) → n < 2 ^ 34 → IsBytes (write_length n)
length_bytes n h =
    let (z, says) = size_of n h in
    let l = first_short z n says in
    subst IsBytes (sym (write_sized z n says)) (bytes_cons _ _ (omega arith) (digits_bytes (bytes_more z) n))

atom_bytes : (bs : List ℕ) → IsBytes bs → length bs < 2 ^ 34 → IsBytes (write_atom bs)
unfolding write_atom
atom_bytes [] h k = bytes_cons 0x80 [] (omega arith) h
atom_bytes (x ∷ []) h k = on_bool (ltb x 0x80) (λ e. rw (e, write_atom) h) (λ e. rw (e, write_atom) (bytes_cons 0x81 (x ∷ []) (omega arith) h))
atom_bytes (x ∷ y ∷ bs) h k = bytes_both (write_length (length (x ∷ y ∷ bs))) (x ∷ y ∷ bs) (length_bytes _ k) h

tree_bytes : (t : Tree) → EveryAtom IsBytes t → Writable t → IsBytes (write t)
unfolding write EveryAtom Writable
tree_bytes (atom b) h k = atom_bytes b h k
tree_bytes (pair l r) h k = bytes_cons 0xff _ (omega arith) (bytes_both (write l) (write r) (tree_bytes l h.0 k.0) (tree_bytes r h.1 k.1))

-- ---- the shortest

reads_spelled : (bs : List ℕ) (t : Tree) → ReadsAs bs t → IsBytes bs → Spelled t bs
unfolding ReadsAs
reads_spelled bs t (s, h) y = whole_spelled no_limits bs 0 t s h y

-- "The writer still uses the shortest."
pub written_shortest : (t : Tree) → Writable t → Shortest (write t)
unfolding Shortest
written_shortest t w u r cs y reads =
    let e : t ≡ u = one_tree (write t) t u (reads_as_written t w) r in
    subst (λ (v : Tree). length (write v) ≤ length cs) (sym e) (reads_spelled cs u reads y).least.long

-- Bytes that read as a tree are what is written of it exactly when they are shortest.
pub returned : (bs : List ℕ) (t : Tree) → IsBytes bs → ReadsAs bs t → (write t ≡ bs) ↔ Shortest bs
unfolding Shortest
returned bs t y r =
    let w = reads_spelled bs t r y in (
      λ e. subst Shortest e (written_shortest t w.writable),
      λ h. sym (w.least.only (h t r (write t) (tree_bytes t w.atoms w.writable) (reads_as_written t w.writable))),
    )

-- ---- what is read within 01's limits is read without

AnyRefusal : Refusal → Type 0
AnyRefusal n = Unit {0}

spend_free : (c : ℕ) → Alike AnyRefusal (spend limits c) (spend no_limits c)
unfolding spend AnyRefusal
spend_free c = record {
  so = λ s. on_bool (leb (s.units + c) unit_limit) (λ e. same (rw (e, spend))) (λ e. off UnitsOut (record { left = s.left; units = unit_limit }) tt (rw (e, spend)));
}

long_free : (p : ℕ) → Alike AnyRefusal (read_long limits p) (read_long no_limits p)
unfolding read_long AnyRefusal
long_free p = alike_bind (alike (length_from p)) (λ n.
    alike_seq (alike_hold (limits.atom_fits n) AtomLong tt) (alike_bind (alike (body n)) (λ bs. alike_seq (spend_free (atom_cost bs)) (alike (give (atom bs))))))

atom_free : (p : ℕ) → Alike AnyRefusal (read_atom limits p) (read_atom no_limits p)
unfolding read_atom
atom_free p = alike_if (ltb p 0x80) (alike_seq (spend_free 5) (alike (give (byte p)))) (alike_if (eqb p 0x80) (alike (give nil)) (long_free p))

tree_free : (k : ℕ) → Alike AnyRefusal (read limits k) (read no_limits k)
unfolding read
tree_free zero = alike (refuse _)
tree_free (suc k) = alike_bind (alike next) (λ p.
    alike_if (eqb p 0xff)
    (alike_bind (tree_free k) (λ l. alike_bind (tree_free k) (λ r. alike_seq (spend_free pair_cost) (alike (give (pair l r))))))
    (atom_free p))

whole_free : (bs : List ℕ) (u : ℕ) → Unless AnyRefusal (read_whole limits bs u) (read_whole no_limits bs u)
unfolding read_whole
whole_free bs u = (alike_bind (tree_free (length bs)) (λ t. alike (at_end >> give t))).so (record { left = bs; units = u })

pub form_reads : (bs : List ℕ) (t : Tree) (s : Reading) → read_form bs 0 ≡ done t s → ReadsAs bs t
unfolding ReadsAs
form_reads bs t s h = (s, unless_done (whole_free bs 0) (form_read bs 0 t s h).whole)

-- ---- a form in any spelling

module _ (bs : List ℕ) (y : IsBytes bs) (t : Tree) (s : Reading) where
  -- no more bytes are written than were read,
  pub no_longer : (u : ℕ) → read_form bs u ≡ done t s → length (write t) ≤ length bs
  no_longer u h = (whole_spelled limits bs u t s (form_read bs u t s h).whole y).least.long

  -- and the tree's atoms are bytes.
  pub atoms_bytes : (u : ℕ) → read_form bs u ≡ done t s → EveryAtom IsBytes t
  atoms_bytes u h = (whole_spelled limits bs u t s (form_read bs u t s h).whole y).atoms

  -- "Writing and reading again gives the same tree", for the same units, from any units on.
  pub read_again : (u : ℕ) → u ≤ unit_limit → read_form bs u ≡ done t s → read_form (write t) u ≡ done t s
  read_again u k h =
      let r = form_read bs u t s h in
      let l = no_longer u h in
      let m = r.short in
      form_write_from t u (omega arith) r.narrow (r.cheap k) ∙ ap (λ (z : Reading). done t z) (sym r.after)

  -- "The bytes return exactly when they were shortest."
  pub back_exactly : read_form bs 0 ≡ done t s → (write t ≡ bs) ↔ Shortest bs
  back_exactly h = returned bs t y (form_reads bs t s h)

  -- A form that is read is worked, and answered, as the shortest spelling of its tree is.
  pub worked_again : read_form bs 0 ≡ done t s → worked bs ≡ worked (write t)
  unfolding worked
  worked_again h = ap worked_on (h ∙ sym (read_again 0 (omega arith) h))

  pub run_again : read_form bs 0 ≡ done t s → (room-length out-length : ℕ) → run bs room-length out-length ≡ run (write t) room-length out-length
  unfolding run
  run_again h m n = rw (worked_again h)
