-- Reading and writing on bytes alone: what each return needs. Assumes nothing.
use Rattle.std.specs.Prelude.{Result, Ok, Err, Option, Some, None}
use mathlib.Core.Path.{◌≡◌, refl, sym}
use mathlib.Core.List.{List, [], ◌∷◌}
use Prim.Native.Nat.{ℕ, zero, suc, ◌<◌, ◌≤◌}
use native.Mathlib.Omega.{arith}
use lib.ListN.{length}
use Rattle.refusals.specs.declared.Refusal.{Refusal}
use Rattle.refusals.specs.declared.Refusal.TheVariants.{RoomSmall, OutputShort}
use Rattle.meaning.specs.Tree.{Tree}
use Rattle.meaning.specs.Limits.{room_least}
use Rattle.meaning.specs.Form.{read_form, write}
use Rattle.meaning.specs.Outcome.{plain, deliver_tree, ended, zeroed, out_after, told, Delivers, Settles}
use Rattle.meaning.proofs.Late.{late_read}
use Rattle.meaning.proofs.Lent.{Zeros, zeros_answered, zeros_tree, zeros_ended, ended_refused, ended_done, small_settles, zeroed_settles}
use Rattle.store.specs.declared.Charges.{Charges}
use Rattle.store.specs.declared.Cell.{Cell}
use Rattle.store.specs.declared.Cell.TheVariants.{Pair, Atom}
use Rattle.store.specs.declared.Made.{Made}
use Rattle.store.specs.Cells.{cell_at, bytes_at}
use Rattle.store.specs.Nodes.{tree_at}
use Rattle.store.specs.Store.{Ready}
use Rattle.store.proofs.Ready as ready
use Rattle.form.specs.declared.Written.{Written}
use Rattle.form.specs.Spans.{Stops, stops}
use Rattle.form.specs.Reads.{WholeTo, WholeOk}
use Rattle.form.specs.Writes.{Short, Writable, Delivered}
use Rattle.form.specs.Bytes.{delivered_read, read_outcome, delivered_write, write_outcome, read_says, write_says}
use Rattle.form.proofs.Delivering.{tree_short, tree_long}

-- ---- a node of the store can be written

pub node_writable : (f s : List ℕ) (c : Charges) (n : ℕ) → Ready f s c n → Writable f s n
unfolding Short
node_writable f s c n h = record { room = ready.room f s c n h; short = go (suc n) n (omega arith) h }
  where
    go : (k m : ℕ) → m < k → Ready f s c m → Short (tree_at f s m)
    go zero m l h = absurd (omega arith)
    go (suc k) m l h = by (cell_at s m) refl (go k)
      where
        by : (q : Cell) → cell_at s m ≡ q → ((i : ℕ) → i < k → Ready f s c i → Short (tree_at f s i)) → Short (tree_at f s m)
        by (Pair x y) e w = rw (ready.look_pair f s c m x y (Pair x y) refl (sym e)) (
          w x (omega (arith, ready.falls_left f s c m x y (Pair x y) refl (sym e))) (ready.ready_left f s c m x y (Pair x y) refl (sym e) h),
          w y (omega (arith, ready.falls_right f s c m x y (Pair x y) refl (sym e))) (ready.ready_right f s c m x y (Pair x y) refl (sym e) h),
        )
        by Atom e w = rw (ready.look_atom f s m Atom (sym e) refl) (ready.atom_short f s m Atom (sym e) refl c (bytes_at f s m) h refl)

-- ---- delivering

module _ (t : Tree) (units : ℕ) (w w₁ : List ℕ) (r : Option ℕ) (d : Delivered (write t) w w₁ r) where
  pub deliver_short : r ≡ None → Delivers write_says (deliver_tree (length w) t (units ∷ [])) w w₁ (Err OutputShort)
  unfolding write_says
  deliver_short i = tree_short write_says t (units ∷ []) w w₁ r d (Err OutputShort) refl i

  pub deliver_done : (k : ℕ) → r ≡ Some k → Delivers write_says (deliver_tree (length w) t (units ∷ [])) w w₁ (Ok (record { length = k; units = units }))
  unfolding write_says
  deliver_done k i = tree_long write_says t (units ∷ []) w w₁ r d (Ok (record { length = k; units = units })) k refl i

-- ---- reading

module _ (f s : List ℕ) where
  pub read_small : length s < room_least → Settles read_says (read_outcome f (length s)) s s [] [] (Err RoomSmall)
  unfolding read_outcome read_says
  read_small h = small_settles read_says (ended delivered_read (read_form f 0)) s [] (Err RoomSmall) refl h

  pub write_small : (w : List ℕ) → length s < room_least → Settles write_says (write_outcome f (length s) (length w)) s s w w (Err RoomSmall)
  unfolding write_outcome write_says
  write_small w h = small_settles write_says (ended (delivered_write (length w)) (read_form f 0)) s w (Err RoomSmall) refl h

  read_zeros : Zeros (ended delivered_read (read_form f 0))
  unfolding delivered_read
  read_zeros = zeros_ended delivered_read (λ t x. zeros_answered [] plain (x.units ∷ [])) (read_form f 0) (late_read f 0)

  write_zeros : (n : ℕ) → Zeros (ended (delivered_write n) (read_form f 0))
  unfolding delivered_write
  write_zeros n = zeros_ended (delivered_write n) (λ t x. zeros_tree n t (x.units ∷ [])) (read_form f 0) (late_read f 0)

  module _ (s₁ s₂ : List ℕ) (z : s₂ ≡ zeroed s₁) (same : length s₁ ≡ length s) (h : room_least ≤ length s) (m : Result Made Refusal) (o : WholeOk f s₁ m) where
    stopped : (n : Refusal) → m ≡ Err n → Stops (read_form f 0) n
    unfolding WholeOk
    stopped n e = rw e at o

    pub read_refused : (n : Refusal) → m ≡ Err n → Settles read_says (read_outcome f (length s)) s s₂ [] [] (Err n)
    unfolding read_outcome read_says
    read_refused n e = zeroed_settles read_says _ s s₁ s₂ [] [] (Err n) (go (stopped n e)) read_zeros h z same
      where
        go : Stops (read_form f 0) n → Delivers read_says (ended delivered_read (read_form f 0)) [] [] (Err n)
        go (stops t i) = ended_refused read_says delivered_read (read_form f 0) n t [] (Err n) i refl

    pub write_refused : (n : Refusal) (w : List ℕ) → m ≡ Err n → Settles write_says (write_outcome f (length s) (length w)) s s₂ w w (Err n)
    unfolding write_outcome write_says
    write_refused n w e = zeroed_settles write_says _ s s₁ s₂ w w (Err n) (go (stopped n e)) (write_zeros (length w)) h z same
      where
        go : Stops (read_form f 0) n → Delivers write_says (ended (delivered_write (length w)) (read_form f 0)) w w (Err n)
        go (stops t i) = ended_refused write_says (delivered_write (length w)) (read_form f 0) n t w (Err n) i refl

    module _ (x : Made) (e : m ≡ Ok x) where
      abbrev q : ℕ
      q = x.node

      abbrev c : Charges
      c = x.ch

      whole : WholeTo f s₁ c q
      unfolding WholeOk
      whole = rw e at o

      pub read_done : Settles read_says (read_outcome f (length s)) s s₂ [] [] (Ok c.units)
      unfolding read_outcome read_says delivered_read told out_after
      read_done = zeroed_settles read_says _ s s₁ s₂ [] [] (Ok c.units)
          (ended_done read_says delivered_read (read_form f 0) (tree_at f s₁ q) _ [] [] (Ok c.units) whole.is (record { answer = refl; out = refl })) read_zeros h z same

      pub write_done : (w w₁ : List ℕ) (a : Result Written Refusal) → Delivers write_says (deliver_tree (length w) (tree_at f s₁ q) (c.units ∷ [])) w w₁ a → Settles write_says (write_outcome f (length s) (length w)) s s₂ w w₁ a
      unfolding write_outcome delivered_write
      write_done w w₁ a d = zeroed_settles write_says _ s s₁ s₂ w w₁ a (ended_done write_says (delivered_write (length w)) (read_form f 0) (tree_at f s₁ q) _ w w₁ a whole.is d) (write_zeros (length w)) h z same

-- the whole form's node can be written
pub whole_writable : (f s₁ : List ℕ) (m : Result Made Refusal) (x : Made) → WholeOk f s₁ m → m ≡ Ok x → Writable f s₁ x.node
unfolding WholeOk
whole_writable f s₁ m x o e = let w : WholeTo f s₁ x.ch x.node = rw e at o in node_writable f s₁ x.ch x.node w.ready
