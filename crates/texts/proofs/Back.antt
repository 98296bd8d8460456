-- The functions there and back: what `write_text` wrote, `read_text` answers as `form::write` answers the form. Assumes nothing.
use Prim.Native.Nat.{ℕ}
use mathlib.Core.Path.{◌≡◌, refl, sym, ◌∙◌, ap}
use mathlib.Core.List.{List, [], ◌∷◌}
use mathlib.Core.Bool.{Bool, true, false}
use lib.Dec.{leb}
use lib.ListN.{length, take}
use native.Mathlib.Omega.{arith}
use Rattle.std.specs.Prelude.{Ok}
use Rattle.refusals.specs.declared.Refusal.TheVariants.{RoomSmall, OutputShort}
use Rattle.meaning.specs.Tree.{Tree}
use Rattle.meaning.specs.Limits.{room_least}
use Rattle.meaning.specs.Meter.{Out, done, stop}
use Rattle.meaning.specs.Form.{Reading, read_form, IsBytes}
use Rattle.meaning.specs.Outcome.{plain, answered, refused, deliver, ended, in_room, Settles}
use Rattle.meaning.proofs.Lent.{told_answer}
use Rattle.form.specs.Bytes.{write_outcome, write_says}
use Rattle.form.proofs.Back.{WasRead}
use Rattle.notation.specs.Texts.{text_of}
use Rattle.texts.specs.Outcomes.{deliver_text, read_text_outcome, delivered_text, write_text_outcome}
use Rattle.texts.proofs.RoundTrip.{round_trip}

-- what `write_text` tells of a tree
abbrev told_of : Tree → Reading → List ℕ
told_of t s = length (text_of t) ∷ s.units ∷ []

module _ (form bytes ns : List ℕ) (n m : ℕ) where
  -- an answer is the text of a form that was read
  written_inv : write_text_outcome form n m ≡ answered bytes plain ns → WasRead form bytes ns text_of told_of
  unfolding write_text_outcome in_room ended delivered_text deliver_text deliver
  written_inv h = roomy (leb room_least n) h
    where
      fits : (b : Bool) (t : Tree) (s : Reading) → elim b [ true ↦ answered (text_of t) plain (told_of t s) | false ↦ refused OutputShort ] ≡ answered bytes plain ns → (bytes ≡ text_of t) × (ns ≡ told_of t s)
      fits true t s i = (cc, cc)
      fits false t s i = let z : ◌≡◌ {A = ℕ} 0 1 = cc in absurd (omega arith)

      by : (o : Out Reading Tree) → read_form form 0 ≡ o → ended (delivered_text m) o ≡ answered bytes plain ns → WasRead form bytes ns text_of told_of
      by (done t s) e i = let (p, q) = fits (leb (length (text_of t)) m) t s i in record { tree = t; after = s; is = e; bytes_are = p; numbers_are = q }
      by (stop r s) e i = let z : ◌≡◌ {A = ℕ} 0 1 = cc in absurd (omega arith)

      roomy : (b : Bool) → elim b [ true ↦ ended (delivered_text m) (read_form form 0) | false ↦ refused RoomSmall ] ≡ answered bytes plain ns → WasRead form bytes ns text_of told_of
      roomy true i = by (read_form form 0) refl i
      roomy false i = let z : ◌≡◌ {A = ℕ} 0 1 = cc in absurd (omega arith)

module _ (form room out room' out' : List ℕ) (b : IsBytes form) where
  -- Where `write_text` answers n bytes, `read_text` of them has, in any room and output, the outcome that `form::write` has of the form.
  pub text_back : (n units : ℕ) → Settles write_says (write_text_outcome form (length room) (length out)) room room' out out' (Ok (record { length = n; units = units }))
      → (room-length out-length : ℕ) → read_text_outcome (take n out') room-length out-length ≡ write_outcome form room-length out-length
  unfolding write_says read_text_outcome write_outcome
  text_back n units h k m =
      let a = told_answer (write_text_outcome form (length room) (length out)) plain (n ∷ units ∷ []) out out' h.delivers.answer h.delivers.out in
      let w = written_inv form a.bytes (n ∷ units ∷ []) (length room) (length out) a.is in
      let i : n ∷ units ∷ [] ≡ told_of w.tree w.after = w.numbers_are in
      let j : n ≡ length (text_of w.tree) = cc in
      let l : length a.bytes ≡ n = ap length w.bytes_are ∙ sym j in
      let t : take n out' ≡ text_of w.tree = ap (λ (z : ℕ). take z out') (sym l) ∙ a.front ∙ w.bytes_are in
      rw (t, round_trip form b w.tree w.after 0 (omega arith) w.is, w.is)
