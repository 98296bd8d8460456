-- No refusal of a text leaves the room as it came in, so that the room is zero after each. Assumes nothing.
use Prim.Native.Nat.{ℕ}
use mathlib.Core.Path.{◌≡◌, refl}
use mathlib.Core.List.{List, [], ◌∷◌}
use mathlib.Core.Bool.{Bool, true, false, not}
use lib.Dec.{leb}
use lib.ListN.{length}
use Rattle.refusals.specs.declared.Refusal.{Refusal}
use Rattle.refusals.specs.declared.Refusal.TheVariants.{NoParse, TextLong}
use Rattle.refusals.specs.Numbers.{number_of, leaves_room}
use Rattle.meaning.specs.Tree.{Tree}
use Rattle.meaning.specs.Limits.{nesting_limit}
use Rattle.meaning.specs.Meter.{Out, done, stop}
use Rattle.meaning.specs.Form.{Reading, write, read_form}
use Rattle.meaning.specs.Evaluate.{evaluate}
use Rattle.meaning.specs.Driver.{optimize_sexp}
use Rattle.meaning.specs.Outcome.{Outcome, ended}
use Rattle.meaning.specs.Run.{after_reading, worked_on}
use Rattle.meaning.proofs.Tests.{not_false, and_inv}
use Rattle.meaning.proofs.Walk.{OfWork}
use Rattle.meaning.proofs.Late.{Touched, late_read, late_evaluate, late_driver}
use Rattle.meaning.proofs.Lent.{Zeros, zeros_refused, zeros_deliver}
use Rattle.form.specs.Both.{Both}
use Rattle.evaluation.specs.Bytes.{at_units, worked_on as evaluated-on}
use Rattle.notation.specs.Texts.{text_limit, text_of}
use Rattle.notation.specs.Grammar.{Token, tree_of_text, read_text}
use Rattle.texts.specs.Outcomes.{deliver_text, read_texts}

-- a refusal, if it is one, does not leave the room
unfoldable pub Zeroing : {S A : Type 0} → Out S A → Type 0
Zeroing (done a s) = Unit {0}
Zeroing (stop n s) = leaves_room n ≡ false

-- 01's refusals of work
of_work : (n : Refusal) → OfWork n → leaves_room n ≡ false
of_work n h = let (t, k) = and_inv (not (leaves_room n)) (leb (number_of n) 14) h in go (leaves_room n) t
  where
    go : (b : Bool) → not b ≡ true → b ≡ false
    go true e = not_false e
    go false e = refl

pub touched_zeroing : {S A : Type 0} (o : Out S A) → Touched o → Zeroing o
unfolding Touched Zeroing
touched_zeroing (done a s) h = tt
touched_zeroing (stop n s) h = of_work n h

-- ---- reading a text

pub text_zeroing : (text : List ℕ) (u : ℕ) → Zeroing (read_text text u)
unfolding read_text Zeroing
text_zeroing text u = long (leb (length text) text_limit)
  where
    by : (o : Out (List Token) Tree) → Zeroing {S = Reading} {A = Tree} (elim o [ done t ts ↦ read_form (write t) u | stop n ts ↦ stop NoParse (record { left = []; units = u }) ])
    by (done t ts) = touched_zeroing (read_form (write t) u) (late_read (write t) u)
    by (stop n ts) = refl

    long : (b : Bool) → Zeroing {S = Reading} {A = Tree} (elim b [
      | true ↦ elim (tree_of_text text) [ done t ts ↦ read_form (write t) u | stop n ts ↦ stop NoParse (record { left = []; units = u }) ]
      | false ↦ stop TextLong (record { left = []; units = u })
    ])
    long true = by (tree_of_text text)
    long false = refl

-- ---- a run

pub run_zeroing : (text : List ℕ) → Zeroing (worked_on (read_text text 0))
unfolding worked_on Zeroing
run_zeroing text = go (read_text text 0) (text_zeroing text 0)
  where
    go : (o : Out Reading Tree) → Zeroing o → Zeroing (worked_on o)
    go (done t r) h = touched_zeroing (optimize_sexp nesting_limit t (after_reading r)) ((late_driver nesting_limit t).so (after_reading r))
    go (stop n r) h = h

-- ---- an evaluation

pub texts_zeroing : (first second : List ℕ) → Zeroing (read_texts first second)
unfolding read_texts Zeroing
texts_zeroing first second = go (read_text first 0) (text_zeroing first 0)
  where
    then : (t : Tree) (o : Out Reading Tree) → Zeroing o → Zeroing {S = Reading} {A = Both} (elim o [ done u r ↦ done (record { one = t; other = u }) r | stop n r ↦ stop n r ])
    then t (done u r) h = tt
    then t (stop n r) h = h

    go : (o : Out Reading Tree) → Zeroing o → Zeroing {S = Reading} {A = Both} (elim o [
      | done t s ↦ elim (read_text second s.units) [ done u r ↦ done (record { one = t; other = u }) r | stop n r ↦ stop n r ]
      | stop n s ↦ stop n s
    ])
    go (done t s) h = then t (read_text second s.units) (text_zeroing second s.units)
    go (stop n s) h = h

pub value_zeroing : (first second : List ℕ) → Zeroing (evaluated-on (read_texts first second))
unfolding evaluated-on Zeroing
value_zeroing first second = go (read_texts first second) (texts_zeroing first second)
  where
    go : (o : Out Reading Both) → Zeroing o → Zeroing (evaluated-on o)
    go (done b r) h = touched_zeroing (evaluate b.one b.other (at_units r.units)) ((late_evaluate b.one b.other).so (at_units r.units))
    go (stop n r) h = h

-- ---- the outcome

pub zeros_worked : {S A : Type 0} (then : A → S → Outcome) → ((a : A) (s : S) → Zeros (then a s)) → (o : Out S A) → Zeroing o → Zeros (ended then o)
unfolding ended Zeroing
zeros_worked then h (done a s) t = h a s
zeros_worked then h (stop n s) t = zeros_refused n t

pub zeros_text : (limit : ℕ) (t : Tree) (ns : List ℕ) → Zeros (deliver_text limit t ns)
unfolding deliver_text
zeros_text limit t ns = zeros_deliver limit (text_of t) (length (text_of t) ∷ ns)
