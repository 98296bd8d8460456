-- Demand 2's last sentence about the function `write` itself: "writing and reading again gives the same tree, and the bytes return exactly when they were shortest". Assumes nothing.
use Rattle.refusals.specs.declared.Refusal.{Refusal}
use Rattle.std.specs.Prelude.{Result, Ok}
use Prim.Native.Nat.{ℕ, ◌≤◌}
use mathlib.Core.Path.{◌≡◌, refl, sym, ◌∙◌, ap, subst}
use mathlib.Core.List.{List, [], ◌∷◌}
use mathlib.Core.Logic.{◌↔◌}
use mathlib.Core.Bool.{Bool, true, false}
use lib.Dec.{leb}
use lib.ListN.{length, take}
use native.Mathlib.Omega.{arith}
use borrow.Author.Tests.{le-leb}
use Rattle.refusals.specs.declared.Refusal.TheVariants.{RoomSmall, OutputShort}
use Rattle.meaning.specs.Tree.{Tree}
use Rattle.meaning.specs.Limits.{room_least, unit_limit}
use Rattle.meaning.specs.Meter.{Out, done, stop}
use Rattle.meaning.specs.Form.{Reading, read_form, write, IsBytes, Shortest}
use Rattle.meaning.specs.Outcome.{plain, Outcome, answered, refused, deliver, deliver_tree, ended, in_room, told, Settles}
use Rattle.meaning.proofs.ReadWrite.{form_read}
use Rattle.meaning.proofs.Shortest.{read_again, no_longer, back_exactly}
use Rattle.meaning.proofs.Lent.{room_enough, told_answer}
use Rattle.form.specs.declared.Written.{Written}
use Rattle.form.specs.Both.{read_both}
use Rattle.form.specs.Bytes.{delivered_read, read_outcome, delivered_write, write_outcome, read_says, write_says}
use Rattle.form.proofs.OnlyOne.{write_lossless}
use Rattle.form.proofs.Both.{both_read}

-- the tree of a form that was answered
pub record WasRead (form bytes ns : List ℕ) (f : Tree → List ℕ) (g : Tree → Reading → List ℕ) : Type 0 where
  pub tree : Tree
  pub after : Reading
  pub is : read_form form 0 ≡ done tree after
  pub bytes_are : bytes ≡ f tree
  pub numbers_are : ns ≡ g tree after

-- an answer after refusal 1 and the reader's
answered_inv : (form bytes ns : List ℕ) (n : ℕ) (then : Tree → Reading → Outcome) (f : Tree → List ℕ) (g : Tree → Reading → List ℕ)
    → ((t : Tree) (s : Reading) → then t s ≡ answered bytes plain ns → (bytes ≡ f t) × (ns ≡ g t s))
    → in_room n (ended then (read_form form 0)) ≡ answered bytes plain ns → WasRead form bytes ns f g
unfolding in_room ended
answered_inv form bytes ns n then f g k h = roomy (leb room_least n) h
  where
    by : (o : Out Reading Tree) → read_form form 0 ≡ o → ended then o ≡ answered bytes plain ns → WasRead form bytes ns f g
    by (done t s) e i = let (p, q) = k t s i in record { tree = t; after = s; is = e; bytes_are = p; numbers_are = q }
    by (stop r s) e i = let z : ◌≡◌ {A = ℕ} 0 1 = cc in absurd (omega arith)

    roomy : (b : Bool) → elim b [ true ↦ ended then (read_form form 0) | false ↦ refused RoomSmall ] ≡ answered bytes plain ns → WasRead form bytes ns f g
    roomy true i = by (read_form form 0) refl i
    roomy false i = let z : ◌≡◌ {A = ℕ} 0 1 = cc in absurd (omega arith)

module _ (form : List ℕ) (bytes ns : List ℕ) where
  pub write_was_read : (n m : ℕ) → write_outcome form n m ≡ answered bytes plain ns → WasRead form bytes ns write (λ t s. length (write t) ∷ s.units ∷ [])
  unfolding write_outcome delivered_write deliver_tree deliver
  write_was_read n m h = answered_inv form bytes ns n (delivered_write m) write (λ t s. length (write t) ∷ s.units ∷ []) delivered h
    where
      delivered : (t : Tree) (s : Reading) → delivered_write m t s ≡ answered bytes plain ns → (bytes ≡ write t) × (ns ≡ length (write t) ∷ s.units ∷ [])
      delivered t s i = go (leb (length (write t)) m) i
        where
          go : (b : Bool) → elim b [ true ↦ answered (write t) plain (length (write t) ∷ s.units ∷ []) | false ↦ refused OutputShort ] ≡ answered bytes plain ns → (bytes ≡ write t) × (ns ≡ length (write t) ∷ s.units ∷ [])
          go true e = (cc, cc)
          go false e = let z : ◌≡◌ {A = ℕ} 0 1 = cc in absurd (omega arith)

  pub read_was_read : (n : ℕ) → read_outcome form n ≡ answered bytes plain ns → WasRead form bytes ns (λ t. []) (λ t s. s.units ∷ [])
  unfolding read_outcome delivered_read
  read_was_read n h = answered_inv form bytes ns n delivered_read (λ t. []) (λ t s. s.units ∷ []) delivered h
    where
      delivered : (t : Tree) (s : Reading) → delivered_read t s ≡ answered bytes plain ns → (bytes ≡ []) × (ns ≡ s.units ∷ [])
      delivered t s i = (cc, cc)

-- what `write` answered: the tree that was read, and its n bytes at the front of the output
pub record WroteBack (form out' : List ℕ) (n units : ℕ) : Type 0 where
  pub tree : Tree
  pub after : Reading
  pub is : read_form form 0 ≡ done tree after
  pub count : n ≡ length (write tree)
  pub cost : units ≡ after.units
  pub front : take n out' ≡ write tree

module _ (form room out room' out' : List ℕ) where
  wrote_back : (n units : ℕ) → Settles write_says (write_outcome form (length room) (length out)) room room' out out' (Ok (record { length = n; units = units })) → WroteBack form out' n units
  unfolding write_says
  wrote_back n units h =
      let t = told_answer (write_outcome form (length room) (length out)) plain (n ∷ units ∷ []) out out' h.delivers.answer h.delivers.out in
      let w = write_was_read form t.bytes (n ∷ units ∷ []) (length room) (length out) t.is in
      let i : n ∷ units ∷ [] ≡ length (write w.tree) ∷ w.after.units ∷ [] = w.numbers_are in
      let j : n ≡ length (write w.tree) = cc in
      let k : length t.bytes ≡ n = ap length w.bytes_are ∙ sym j in
      record { tree = w.tree; after = w.after; is = w.is; count = j; cost = cc; front = ap (λ (m : ℕ). take m out') (sym k) ∙ t.front ∙ w.bytes_are }

  module _ (b : IsBytes form) where
    -- What `write` answers reads again as the form does: the same tree, for the same units, which are those that it tells.
    pub writes_again : (n units : ℕ) → Settles write_says (write_outcome form (length room) (length out)) room room' out out' (Ok (record { length = n; units = units }))
        → (t : Tree) × (s : Reading) × (read_form form 0 ≡ done t s) × (read_form (take n out') 0 ≡ done t s) × (units ≡ s.units)
    writes_again n units h =
        let w = wrote_back n units h in
        (w.tree, w.after, w.is, ap (λ (f : List ℕ). read_form f 0) w.front ∙ read_again form b w.tree w.after 0 (omega arith) w.is, w.cost)

    -- It is the form itself exactly when the form was shortest, and never longer.
    pub writes_back : (n units : ℕ) → Settles write_says (write_outcome form (length room) (length out)) room room' out out' (Ok (record { length = n; units = units }))
        → ((take n out' ≡ form) ↔ Shortest form) × (n ≤ length form)
    writes_back n units h =
        let w = wrote_back n units h in
        let e = back_exactly form b w.tree w.after w.is in
        let l = no_longer form b w.tree w.after 0 w.is in
        let m = w.count in
        ((λ i. e.0 (sym w.front ∙ i), λ i. w.front ∙ e.1 i), omega arith)

    -- And every form that `read` answers, `write` does, where room and output are large enough.
    pub read_is_written : (s s' : List ℕ) (units : ℕ) (a : Result Written Refusal) → Settles read_says (read_outcome form (length s)) s s' [] [] (Ok units)
        → Settles write_says (write_outcome form (length room) (length out)) room room' out out' a → room_least ≤ length room → length form ≤ length out
        → (n : ℕ) × (a ≡ Ok (record { length = n; units = units }))
    unfolding read_says write_says write_outcome ended delivered_write deliver_tree deliver told
    read_is_written s s' units a h k l m =
        let t = told_answer (read_outcome form (length s)) plain (units ∷ []) [] [] h.delivers.answer h.delivers.out in
        let w = read_was_read form t.bytes (units ∷ []) (length s) t.is in
        let i : units ∷ [] ≡ w.after.units ∷ [] = w.numbers_are in
        let j : units ≡ w.after.units = cc in (
          length (write w.tree),
          write_lossless.same a (Ok (record { length = (length (write w.tree)); units = units }))
              (k.delivers.answer ∙ ap told (outcome_is w.tree w.after w.is) ∙ ap (λ (y : ℕ). told (answered (write w.tree) plain (length (write w.tree) ∷ y ∷ []))) (sym j)),
        )
      where
        outcome_is : (t : Tree) (x : Reading) → read_form form 0 ≡ done t x → write_outcome form (length room) (length out) ≡ answered (write t) plain (length (write t) ∷ x.units ∷ [])
        outcome_is t x i =
            let o = no_longer form b t x 0 i in
            room_enough (length room) _ l ∙ rw (i, ended) (rw (le-leb (length (write t)) (length out) (omega arith), deliver))

-- Two forms, as the matcher and the evaluator read them, in any spelling: as in the shortest.
pub both_again : (first second : List ℕ) → IsBytes first → IsBytes second → (t v : Tree) (s r : Reading) → read_form first 0 ≡ done t s → read_form second s.units ≡ done v r
    → read_both first second ≡ read_both (write t) (write v)
both_again first second a b t v s r h k =
    let x = form_read first 0 t s h in
    let l : s.units ≤ unit_limit = subst (λ (z : Reading). z.units ≤ unit_limit) (sym x.after) (x.cheap (omega arith)) in
    both_read first second t s h v r k
    ∙ sym (both_read (write t) (write v) t s (read_again first a t s 0 (omega arith) h) v r (read_again second b v r s.units l k))
