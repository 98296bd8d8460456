-- Work of a run that ends with no mark: it began with none. Assumes nothing.
use Prim.Native.Nat.{ℕ, ◌+◌}
use mathlib.Core.Path.{◌≡◌, refl, ap, ◌∙◌}
use mathlib.Core.Bool.{Bool, false, ◌||◌}
use lib.Dec.{leb}
use Rattle.meaning.specs.Limits.{unit_limit, pass_limit}
use Rattle.meaning.specs.Meter.{Out, done, stop, E, Steps, W, Spent, charge, one_pass, mark_if, within}
use Rattle.meaning.proofs.Tests.{on_bool, or_no}
use Rattle.meaning.proofs.MeterLaws.{not_stop}
use Rattle.meaning.proofs.Sure.{Sure}

-- where m is done and the mark is not set, it was not set before, and what m gives is P
abbrev pub Quiet : {A : Type 0} → W A → (A → Type 0) → Type 0
Quiet = Sure (λ s. s.mark ≡ false)

pub quiet_charge : (c : ℕ) → Quiet (charge c) (λ x. Unit {0})
unfolding charge
quiet_charge c = record {
  at = λ s t x h k.
      on_bool (leb (s.units + c) unit_limit)
      (λ e. let h' = rw (e, charge) at h in (cc, tt))
      (λ e. not_stop (rw (e, charge) at h));
}

pub quiet_pass : Quiet one_pass (λ x. Unit {0})
unfolding one_pass
quiet_pass = record {
  at = λ s t x h k.
      on_bool (leb (s.passes + 1) pass_limit)
      (λ e. let h' = rw (e, one_pass) at h in (cc, tt))
      (λ e. not_stop (rw (e, one_pass) at h));
}

-- the mark was asked for, and is not set: its cause was not there
pub quiet_mark : (b : Bool) → Quiet (mark_if b) (λ x. b ≡ false)
unfolding mark_if
quiet_mark b = record { at = λ s t x h k. let e : (s.mark || b) ≡ false = cc in or_no s.mark b e }

-- what an evaluation within a run gives, it gives by itself
pub quiet_within : {A : Type 0} (m : E A) → Quiet (within m) (λ a. (s t : Steps) × (m s ≡ done a t))
unfolding within
quiet_within {A} m = record { at = λ s t a h k. go s t a k (m (record { steps = 0; units = s.units })) refl h }
  where
    go : (s t : Spent) (a : A) → t.mark ≡ false → (o : Out Steps A) → m (record { steps = 0; units = s.units }) ≡ o
        → ◌≡◌ {A = Out Spent A} (elim o [
          | done a e ↦ done a (record { units = e.units; passes = s.passes; mark = s.mark })
          | stop n e ↦ stop n (record { units = e.units; passes = s.passes; mark = s.mark })
        ]) (done a t)
        → (s.mark ≡ false) × ((s t : Steps) × (m s ≡ done a t))
    go s t a k (done b e) p h = let i : b ≡ a = cc in (cc, (_, e, p ∙ ap (λ x. done x e) i))
    go s t a k (stop n e) p h = not_stop h
