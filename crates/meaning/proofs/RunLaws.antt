-- What an answer says of its run, and what a run leaves of what is lent. Assumes nothing.
use Prim.Native.Nat.{ℕ, ◌≤◌}
use mathlib.Core.Path.{◌≡◌, refl, sym, subst}
use mathlib.Core.List.{List, ◌∷◌}
use mathlib.Core.Bool.{Bool, true, false}
use lib.Dec.{leb}
use lib.ListN.{length}
use native.Mathlib.Omega.{arith}
use Rattle.refusals.specs.declared.Refusal.{Refusal}
use Rattle.meaning.specs.Tree.{Tree}
use Rattle.meaning.specs.Limits.{room_least, nesting_limit}
use Rattle.meaning.specs.Meter.{Out, done, stop, Spent}
use Rattle.meaning.specs.Form.{Reading, read_form, write}
use Rattle.meaning.specs.Driver.{optimize_sexp}
use Rattle.meaning.specs.Outcome.{plain, answered, refused, deliver, deliver_tree, ended, in_room}
use Rattle.meaning.specs.Run.{mark_number, finished, after_reading, worked, deliver_run, run}
use Rattle.meaning.proofs.Tests.{on_bool, leb_yes}
use Rattle.meaning.proofs.MeterLaws.{not_stop}
use Rattle.meaning.proofs.Late.{Touched, late_read, late_driver}
use Rattle.meaning.proofs.Lent.{every, Fits, fits_tree, Zeros, zeros_tree, zeros_ended, InTable, table_tree, table_ended, Long, long_tree, long_told}

-- ---- the work

-- a form that is read is worked as its tree,
pub worked_read : (form : List ℕ) (t : Tree) (r : Reading) → read_form form 0 ≡ done t r → worked form ≡ optimize_sexp nesting_limit t (after_reading r)
unfolding worked
worked_read form t r e = rw (e, worked)

-- and only such a form is worked to an end
pub worked_inv : (form : List ℕ) (u : Tree) (s : Spent) → worked form ≡ done u s
    → (t : Tree) × (r : Reading) × (read_form form 0 ≡ done t r) × (optimize_sexp nesting_limit t (after_reading r) ≡ done u s)
unfolding worked
worked_inv form u s h = go (read_form form 0) refl h
  where
    go : (o : Out Reading Tree) → read_form form 0 ≡ o
        → elim o [ done t r ↦ optimize_sexp nesting_limit t (after_reading r) | stop n r ↦ stop n (after_reading r) ] ≡ done u s
        → (t : Tree) × (r : Reading) × (read_form form 0 ≡ done t r) × (optimize_sexp nesting_limit t (after_reading r) ≡ done u s)
    go (done t r) e k = (t, r, e, k)
    go (stop n r) e k = not_stop k

-- ---- an answer

pub mark_only : (a b : Bool) → mark_number a ≡ mark_number b → a ≡ b
unfolding mark_number
mark_only true true e = refl
mark_only true false e = absurd (omega arith)
mark_only false true e = absurd (omega arith)
mark_only false false e = refl

not_refused : {X : Type 0} {n : Refusal} {bytes ns : List ℕ} → refused n ≡ answered bytes plain ns → X
not_refused h = absurd (let z : ◌≡◌ {A = ℕ} 0 1 = cc in omega arith)

same_answer : (a b : List ℕ) (p q u v : ℕ) (m n : Bool) → finished a p u m ≡ finished b q v n → (a ≡ b) × (p ≡ q) × (u ≡ v) × (m ≡ n)
same_answer a b p q u v m n h = (cc, cc, cc, mark_only m n cc)

-- the finished tree, what was spent, and that its written form fits the output
pub record Answer (form : List ℕ) (out-length : ℕ) (bytes : List ℕ) (passes units : ℕ) (mark : Bool) : Type 0 where
  pub tree : Tree
  pub spent : Spent
  pub finished : worked form ≡ done tree spent
  pub written : bytes ≡ write tree
  pub fits : length bytes ≤ out-length
  pub counted : spent ≡ record { units = units; passes = passes; mark = mark }

pub run_inv : (form : List ℕ) (room-length out-length : ℕ) (bytes : List ℕ) (passes units : ℕ) (mark : Bool) → run form room-length out-length ≡ finished bytes passes units mark
    → Answer form out-length bytes passes units mark
unfolding run ended deliver_run deliver_tree deliver
run_inv form room-length out-length bytes passes units mark h =
    on_bool (leb room_least room-length)
    (λ e. go (worked form) refl (rw (e, in_room) at h))
    (λ e. not_refused (rw (e, in_room) at h))
  where
    go : (o : Out Spent Tree) → worked form ≡ o → ended (deliver_run out-length) o ≡ finished bytes passes units mark → Answer form out-length bytes passes units mark
    go (done t s) e k =
        on_bool (leb (length (write t)) out-length)
        (λ f.
        let (w, p, u, m) = same_answer _ _ _ _ _ _ _ _ (rw (f, deliver) at k) in
        record {
          tree = t;
          spent = s;
          finished = e;
          written = sym w;
          fits = subst (λ l. length l ≤ out-length) w (leb_yes _ _ f);
          counted = λ i. record { units = u i; passes = p i; mark = m i };
        })
        (λ f. not_refused (rw (f, deliver) at k))
    go (stop n s) e k = not_refused k

-- The answer fits the output.
pub answer_fits : (form : List ℕ) (room-length out-length : ℕ) (bytes : List ℕ) (passes units : ℕ) (mark : Bool) → run form room-length out-length ≡ finished bytes passes units mark
    → length bytes ≤ out-length
answer_fits form room-length out-length bytes passes units mark h = (run_inv form room-length out-length bytes passes units mark h).fits

-- whatever comes, what is written fits, and the room is all zero after it
pub run_fits : (form : List ℕ) (room-length out-length : ℕ) → Fits out-length (run form room-length out-length)
unfolding run deliver_run Fits
run_fits form room-length out-length = every (Fits out-length) (deliver_run out-length) (λ n. tt) (λ t s. fits_tree out-length t _) room-length (worked form)

pub run_touched : (form : List ℕ) → Touched (worked form)
unfolding worked Touched
run_touched form = touched (read_form form 0) refl
  where
    touched : (o : Out Reading Tree) → read_form form 0 ≡ o
        → Touched {S = Spent} {A = Tree} (elim o [ done t r ↦ optimize_sexp nesting_limit t (after_reading r) | stop n r ↦ stop n (after_reading r) ])
    touched (done t r) e = (late_driver nesting_limit t).so (after_reading r)
    touched (stop n r) e = subst Touched e (late_read form 0)

pub run_zeros : (form : List ℕ) (out-length : ℕ) → Zeros (ended (deliver_run out-length) (worked form))
unfolding deliver_run
run_zeros form out-length = zeros_ended (deliver_run out-length) (λ t s. zeros_tree out-length t _) (worked form) (run_touched form)

-- a refusal has one of 01's numbers
pub run_table : (form : List ℕ) (room-length out-length : ℕ) → InTable (run form room-length out-length)
unfolding run deliver_run
run_table form room-length out-length = table_ended (deliver_run out-length) (λ t s. table_tree out-length t _) room-length (worked form) (run_touched form)

-- an answer's first number is how many bytes it writes
pub run_length : (form : List ℕ) (room-length out-length : ℕ) (bytes : List ℕ) (n : ℕ) (ms : List ℕ) → run form room-length out-length ≡ answered bytes plain (n ∷ ms) → length bytes ≡ n
unfolding run deliver_run Long
run_length form room-length out-length bytes n ms e =
    long_told (run form room-length out-length) bytes plain n ms (every Long (deliver_run out-length) (λ r. tt) (λ t s. long_tree out-length t _) room-length (worked form)) e
