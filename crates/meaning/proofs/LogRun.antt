-- The log of a run: of a form that is read, and within the passes and limits of a run that ends well. Assumes nothing.
use Prim.Native.Nat.{ℕ, suc, ◌≤◌}
use mathlib.Core.Path.{◌≡◌, refl, subst}
use mathlib.Core.List.{List, [], ◌∷◌}
use mathlib.Core.Bool.{Bool, true, false, not, ◌&&◌}
use native.Mathlib.Omega.{arith}
use lib.Dec.{eqb, leb}
use lib.ListN.{length}
use Rattle.refusals.specs.declared.Refusal.{Refusal}
use Rattle.refusals.specs.Numbers.{number_of, leaves_room}
use Rattle.meaning.specs.Tree.{Tree}
use Rattle.meaning.specs.Limits.{form_limit, unit_limit, pass_limit, nesting_limit}
use Rattle.meaning.specs.Meter.{done, stop, Spent, Log, count_of}
use Rattle.meaning.specs.Form.{Reading, read_form}
use Rattle.meaning.specs.Driver.{ends}
use Rattle.meaning.specs.Run.{after_reading, worked, ends_on, ends_in}
use Rattle.meaning.proofs.Tests.{leb_yes, not_false}
use Rattle.meaning.proofs.CostDriver.{driver_fits}
use Rattle.meaning.proofs.ReadWrite.{form_read}
use Rattle.meaning.proofs.Late.{Touched}
use Rattle.meaning.proofs.RunLaws.{worked_inv, run_touched}
use Rattle.meaning.proofs.LogBound.{ends_few}

pub ends_read : (form : List ℕ) (t : Tree) (r : Reading) → read_form form 0 ≡ done t r → ends_in form ≡ ends nesting_limit t (after_reading r)
unfolding ends_in ends_on
ends_read form t r e = rw (e, ends_on)

pub ends_unread : (form : List ℕ) (n : Refusal) (r : Reading) → read_form form 0 ≡ stop n r → ends_in form ≡ []
unfolding ends_in ends_on
ends_unread form n r e = rw (e, ends_on)

-- a run that ends well
pub record Within (form : List ℕ) (s : Spent) : Type 0 where
  pub short : length form ≤ form_limit
  pub passes : s.passes ≤ pass_limit
  pub few : length (ends_in form) ≤ s.passes

pub work_within : (form : List ℕ) (u : Tree) (s : Spent) → worked form ≡ done u s → Within form s
work_within form u s h =
    let (t, r, e, k) = worked_inv form u s h in
    let f = form_read form 0 t r e in
    let c : r.units ≤ unit_limit = rw f.after (f.cheap (omega arith)) in
    let x = driver_fits nesting_limit t u (after_reading r) s (c, omega arith) k in
    let y = ends_few nesting_limit t u (after_reading r) s k in
    record { short = f.short; passes = x.1; few = rw (ends_read form t r e) (omega (arith, y)) }

-- a run that is refused is so with a number of 01's table
low : (b : Bool) (n : ℕ) → (not b && leb n 14) ≡ true → n ≤ 14
low true n h = not_false h
low false n h = leb_yes n 14 h

pub work_refused : (form : List ℕ) (n : Refusal) (s : Spent) → worked form ≡ stop n s → number_of n ≤ 14
unfolding Touched
work_refused form n s e = low (leaves_room n) (number_of n) (subst Touched e (run_touched form))

-- a rule ended no more passes than all rules
pub count_few : (k : ℕ) (l : Log) → count_of k l ≤ length l
unfolding count_of
count_few k [] = omega arith
count_few k (e ∷ l) = go (eqb e.0 k) refl (count_few k l)
  where
    go : (b : Bool) → eqb e.0 k ≡ b → count_of k l ≤ length l → count_of k (e ∷ l) ≤ suc (length l)
    go true q h = rw (q, count_of) (omega arith)
    go false q h = rw (q, count_of) (omega arith)
