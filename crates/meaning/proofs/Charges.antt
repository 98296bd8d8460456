-- Two charges one after the other are one charge of the sum. Assumes nothing.
use Prim.Native.Nat.{ℕ, ◌+◌, ◌<◌}
use mathlib.Core.Path.{◌≡◌, refl, sym, ◌∙◌, ap, ap₂, subst}
use mathlib.Core.Bool.{true, false, not}
use lib.Dec.{leb, T, nleb→lt}
use native.Mathlib.Omega.{arith}
use native.Mathlib.Nat.{add_assoc}
use Rattle.refusals.specs.declared.Refusal.TheVariants.{UnitsOut}
use Rattle.meaning.specs.Limits.{unit_limit}
use Rattle.meaning.specs.Meter.{M, Out, done, stop, ◌>>◌, Spent, Steps, charge, charge_e}
use Rattle.meaning.specs.Form.{Reading, limits, spend}
use Rattle.meaning.proofs.Tests.{on_bool, leb_no}
use Rattle.meaning.proofs.MeterLaws.{seq_at, seq_stop}

-- what a test that failed says
pub leb_over : (m n : ℕ) → leb m n ≡ false → n < m
leb_over m n e = nleb→lt m n (subst (λ x. T (not x)) (sym e) tt)

-- a state that holds the run's units: to read them and to put others in their place
record Purse : Type 1 where
  S : Type 0
  units : S → ℕ
  put : ℕ → S → S
  units_put : (n : ℕ) (s : S) → units (put n s) ≡ n
  put_put : (m n : ℕ) (s : S) → put m (put n s) ≡ put m s
  put_units : (s : S) → put (units s) s ≡ s

module _ (P : Purse) where
  -- a charge that brings the units to n
  at : ℕ → P.S → Out P.S (Unit {0})
  at n s = elim (leb n unit_limit) [ true ↦ done tt (P.put n s) | false ↦ stop UnitsOut (P.put unit_limit s) ]

  -- a charge of c
  take : ℕ → M P.S (Unit {0})
  unfolding at
  take c = λ s. at (P.units s + c) s

  at_fits : (n : ℕ) (s : P.S) → leb n unit_limit ≡ true → at n s ≡ done tt (P.put n s)
  unfolding at
  at_fits n s e = rw (e, at)

  at_over : (n : ℕ) (s : P.S) → leb n unit_limit ≡ false → at n s ≡ stop UnitsOut (P.put unit_limit s)
  unfolding at
  at_over n s e = rw (e, at)

  at_put : (m n : ℕ) (s : P.S) → at m (P.put n s) ≡ at m s
  unfolding at
  at_put m n s = ap₂ (λ x y. elim (leb m unit_limit) as (λ z. Out P.S (Unit {0})) [ true ↦ done tt x | false ↦ stop UnitsOut y ]) (P.put_put m n s) (P.put_put unit_limit n s)

  take_both : (a b : ℕ) (s : P.S) → (take a >> take b) s ≡ take (a + b) s
  unfolding take
  take_both a b s =
      let n : ℕ = P.units s + a in
      on_bool (leb (P.units s + a) unit_limit)
      (λ e.
      seq_at (take a) (take b) s (P.put n s) tt (at_fits n s e)
      ∙ at_put (P.units (P.put n s) + b) n s
      ∙ ap (λ m. at m s) (ap (◌+ b) (P.units_put n s) ∙ add_assoc (P.units s) a b))
      (λ e.
      let l : unit_limit < P.units s + a = leb_over (P.units s + a) unit_limit e in
      seq_stop (take a) (take b) s (P.put unit_limit s) UnitsOut (at_over n s e)
      ∙ sym (at_over (P.units s + (a + b)) s (leb_no (P.units s + (a + b)) unit_limit (omega arith))))

abbrev run_purse : Purse
run_purse = record {
  S = Spent;
  units = λ s. s.units;
  put = λ n s. record { units = n; passes = s.passes; mark = s.mark };
  units_put = λ n s. refl;
  put_put = λ m n s. refl;
  put_units = λ s. refl;
}

abbrev evaluation_purse : Purse
evaluation_purse = record {
  S = Steps;
  units = λ s. s.units;
  put = λ n s. record { steps = s.steps; units = n };
  units_put = λ n s. refl;
  put_put = λ m n s. refl;
  put_units = λ s. refl;
}

abbrev reading_purse : Purse
reading_purse = record {
  S = Reading;
  units = λ s. s.units;
  put = λ n s. record { left = s.left; units = n };
  units_put = λ n s. refl;
  put_put = λ m n s. refl;
  put_units = λ s. refl;
}

-- ---- in a run

-- two charges are one charge of their sum, and where they are refused, it is refused in the same state
pub charge_both : (a b : ℕ) (s : Spent) → (charge a >> charge b) s ≡ charge (a + b) s
unfolding charge take ◌>>◌
charge_both a b s = take_both run_purse a b s

-- ---- in an evaluation

pub charge_e_both : (a b : ℕ) (s : Steps) → (charge_e a >> charge_e b) s ≡ charge_e (a + b) s
unfolding charge_e take ◌>>◌
charge_e_both a b s = take_both evaluation_purse a b s

-- ---- at the reader

pub spend_both : (a b : ℕ) (s : Reading) → (spend limits a >> spend limits b) s ≡ spend limits (a + b) s
unfolding spend take ◌>>◌
spend_both a b s = take_both reading_purse a b s
