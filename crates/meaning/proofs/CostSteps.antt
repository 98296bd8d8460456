-- The costs of an evaluation: its charges are steady, and so is an evaluation within a run. Assumes nothing.
use Prim.Native.Nat.{ℕ, ◌+◌, ◌≤◌, ◌<◌}
use mathlib.Core.Path.{◌≡◌, refl, sym, ◌∙◌, ap}
use mathlib.Core.Bool.{false}
use lib.Dec.{leb}
use native.Mathlib.Decide.{dec_le}
use native.Mathlib.Omega.{arith}
use native.Mathlib.Nat.{add_assoc, add-zero}
use Rattle.refusals.specs.declared.Refusal.{Refusal}
use Rattle.refusals.specs.declared.Refusal.TheVariants.{UnitsOut, StepsOut}
use Rattle.meaning.specs.Limits.{unit_limit, step_limit}
use Rattle.meaning.specs.Meter.{E, Out, done, stop, Spent, Steps, charge_e, one_step, within}
use Rattle.meaning.proofs.Tests.{on_bool, leb_yes, leb_true}
use Rattle.meaning.proofs.MeterLaws.{not_stop}
use Rattle.meaning.proofs.Charges.{leb_over}
use Rattle.meaning.proofs.Cost.{Costing, Costs, Steady, steady_charge}
use Rattle.meaning.proofs.CostRun.{of_run, more, Over, units_over, both?, some_units, by_units}

abbrev pub more_steps : Steps → Steps → Steps
more_steps s c = record { steps = s.steps + c.steps; units = s.units + c.units }

-- within 01's limits of an evaluation
abbrev pub StepsFit : Steps → Type 0
StepsFit s = (s.steps ≤ step_limit) × (s.units ≤ unit_limit)

-- past them: refusal 7, refusal 10
pub data StepsOver (s : Steps) : Refusal → Type 0 where
  all_units : unit_limit < s.units → StepsOver s UnitsOut
  all_steps : step_limit < s.steps → StepsOver s StepsOut

pub steps_over_more : (s c : Steps) (n : Refusal) → StepsOver s n → StepsOver (more_steps s c) n
steps_over_more s c n (all_units h) = all_units (omega arith)
steps_over_more s c n (all_steps h) = all_steps (omega arith)

abbrev pub of_evaluation : Costing
of_evaluation = record {
  S = Steps;
  nothing = record { steps = 0; units = 0 };
  add = more_steps;
  fits = StepsFit;
  over = StepsOver;
  add_nothing = λ s i. record { steps = add-zero s.steps i; units = add-zero s.units i };
  add_add = λ s c d i. record { steps = add_assoc s.steps c.steps d.steps i; units = add_assoc s.units c.units d.units i };
  fits_less = λ s c r. (omega arith, omega arith);
  fits? = λ s. both? (dec_le s.steps step_limit) (dec_le s.units unit_limit);
  over_more = steps_over_more;
}

-- ---- `charge_e`

by_units_e : (s : Steps) (c : ℕ) → ◌≡◌ {A = Steps} (record { steps = s.steps; units = s.units + c }) (more_steps s (record { steps = 0; units = c }))
by_units_e s c i = record { steps = sym (add-zero s.steps) i; units = s.units + c }

charge_e_over : (c : ℕ) (s : Steps) → leb (s.units + c) unit_limit ≡ false → charge_e c s ≡ stop UnitsOut (record { steps = s.steps; units = unit_limit })
unfolding charge_e
charge_e_over c s e = rw (e, charge_e)

pub steady_units_e : (c : ℕ) → Steady of_evaluation (charge_e c)
unfolding charge_e
steady_units_e c = steady_charge of_evaluation (charge_e c) (record { steps = 0; units = c })
    (λ u q. rw (leb_true _ _ q.1, charge_e) (ap (done tt) (by_units_e u c)))
    (λ u q short. on_bool (leb (u.units + c) unit_limit)
    (λ e. absurd (short (omega arith, leb_yes _ _ e)))
    (λ e. record { number = UnitsOut; after = _; stops = charge_e_over c u e; why = all_units (leb_over _ _ e) }))

-- ---- `one_step`

by_step : (s : Steps) → ◌≡◌ {A = Steps} (record { steps = s.steps + 1; units = s.units }) (more_steps s (record { steps = 1; units = 0 }))
by_step s i = record { steps = s.steps + 1; units = sym (add-zero s.units) i }

step_over : (s : Steps) → leb (s.steps + 1) step_limit ≡ false → one_step s ≡ stop StepsOut s
unfolding one_step
step_over s e = rw (e, one_step)

pub steady_step : Steady of_evaluation one_step
unfolding one_step
steady_step = steady_charge of_evaluation one_step (record { steps = 1; units = 0 })
    (λ u q. rw (leb_true _ _ q.0, one_step) (ap (done tt) (by_step u)))
    (λ u q short. on_bool (leb (u.steps + 1) step_limit)
    (λ e. absurd (short (leb_yes _ _ e, omega arith)))
    (λ e. record { number = StepsOut; after = _; stops = step_over u e; why = all_steps (leb_over _ _ e) }))

-- ---- `within`: what an evaluation costs a run is its units

abbrev fresh : Spent → Steps
fresh s = record { steps = 0; units = s.units }

abbrev with_units : Spent → ℕ → Spent
with_units s n = record { units = n; passes = s.passes; mark = s.mark }

-- its steps start at none, so for want of room it is the units that run out
within_over : (u : Spent) (c : Steps) → c.steps ≤ step_limit → (n : Refusal) → StepsOver (more_steps (fresh u) c) n → Over (more u (some_units c.units)) n
within_over u c l n (all_units h) = units_over h
within_over u c l n (all_steps h) = absurd (omega arith)

module _ {A : Type 0} (m : E A) where
  within_done : (s : Spent) (a : A) (e : Steps) → m (fresh s) ≡ done a e → within m s ≡ done a (with_units s e.units)
  unfolding within
  within_done s a e p = rw (p, within)

  within_stop : (s : Spent) (n : Refusal) (e : Steps) → m (fresh s) ≡ stop n e → within m s ≡ stop n (with_units s e.units)
  unfolding within
  within_stop s n e p = rw (p, within)

  within_costs : (s : Spent) (e : Steps) (a : A) → of_run.fits s → Costs of_evaluation m a (fresh s) e → Costs of_run (within m) a s (with_units s e.units)
  within_costs s e a r x = record {
    cost = some_units x.cost.units;
    spent = ap (λ (z : Steps). with_units s z.units) x.spent ∙ by_units s x.cost.units;
    room = (x.room.1, omega arith);
    anew = λ u q. within_done u a (more_steps (fresh u) x.cost) (x.anew (fresh u) (x.room.0, q.0)) ∙ ap (done a) (by_units u x.cost.units);
    refused = λ u q short.
        let v = x.refused (fresh u) (omega arith, q.0) (λ y. short (y.1, omega arith)) in
        record {
          number = v.number;
          after = with_units u v.after.units;
          stops = within_stop u v.number v.after v.stops;
          why = within_over u x.cost (omega (arith, x.room.0)) v.number v.why;
        };
  }

  pub steady_within : Steady of_evaluation m → Steady of_run (within m)
  steady_within sm s t a r h = go (m (fresh s)) refl
    where
      go : (o : Out Steps A) → m (fresh s) ≡ o → Costs of_run (within m) a s t
      go (done b e) p =
          let w : within m s ≡ done b (with_units s e.units) = within_done s b e p in
          let i : b ≡ a = cc in
          let j : t ≡ with_units s e.units = cc in
          rw (j, ← i) (within_costs s e b r (sm (fresh s) e b (omega arith, r.0) p))
      go (stop n e) p = not_stop (sym (within_stop s n e p) ∙ h)
