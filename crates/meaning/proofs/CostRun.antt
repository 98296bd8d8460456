-- The costs of a run: its charges and its mark are steady. Assumes nothing.
use Prim.Native.Nat.{ℕ, ◌+◌, ◌≤◌, ◌<◌}
use mathlib.Core.Path.{◌≡◌, sym, ◌∙◌, ap}
use mathlib.Core.Bool.{Bool, false, ◌||◌, or_assoc, or-false}
use lib.Dec.{leb}
use native.Mathlib.Decide.{dec_le}
use native.Mathlib.Omega.{arith}
use native.Mathlib.Nat.{add_assoc, add-zero}
use Rattle.refusals.specs.declared.Refusal.{Refusal}
use Rattle.refusals.specs.declared.Refusal.TheVariants.{UnitsOut, PassesOut}
use Rattle.meaning.specs.Limits.{unit_limit, pass_limit}
use Rattle.meaning.specs.Meter.{W, done, stop, Spent, charge, one_pass, mark_if}
use Rattle.meaning.proofs.Tests.{on_bool, leb_yes, leb_true}
use Rattle.meaning.proofs.Charges.{leb_over}
use Rattle.meaning.proofs.Cost.{Costing, Steady, steady_charge}

-- what was spent, and what more
abbrev pub more : Spent → Spent → Spent
more s c = record { units = s.units + c.units; passes = s.passes + c.passes; mark = s.mark || c.mark }

-- within 01's limits of a run
abbrev pub Fits : Spent → Type 0
Fits s = (s.units ≤ unit_limit) × (s.passes ≤ pass_limit)

-- past them: refusal 7 where the units are, refusal 12 where the passes are
pub data Over (s : Spent) : Refusal → Type 0 where
  units_over : unit_limit < s.units → Over s UnitsOut
  passes_over : pass_limit < s.passes → Over s PassesOut

pub over_more : (s c : Spent) (n : Refusal) → Over s n → Over (more s c) n
over_more s c n (units_over h) = units_over (omega arith)
over_more s c n (passes_over h) = passes_over (omega arith)

pub both? : {A B : Type 0} → Dec A → Dec B → Dec (A × B)
both? (yes a) (yes b) = yes (a, b)
both? (yes a) (no b) = no (λ p. b p.1)
both? (no a) b = no (λ p. a p.0)

abbrev pub of_run : Costing
of_run = record {
  S = Spent;
  nothing = record { units = 0; passes = 0; mark = false };
  add = more;
  fits = Fits;
  over = Over;
  add_nothing = λ s i. record { units = add-zero s.units i; passes = add-zero s.passes i; mark = or-false s.mark i };
  add_add = λ s c d i. record {
    units = add_assoc s.units c.units d.units i;
    passes = add_assoc s.passes c.passes d.passes i;
    mark = or_assoc s.mark c.mark d.mark i;
  };
  fits_less = λ s c r. (omega arith, omega arith);
  fits? = λ s. both? (dec_le s.units unit_limit) (dec_le s.passes pass_limit);
  over_more = over_more;
}

-- ---- `charge`

abbrev pub some_units : ℕ → Spent
some_units c = record { units = c; passes = 0; mark = false }

pub by_units : (s : Spent) (c : ℕ) → ◌≡◌ {A = Spent} (record { units = s.units + c; passes = s.passes; mark = s.mark }) (more s (some_units c))
by_units s c i = record { units = s.units + c; passes = sym (add-zero s.passes) i; mark = sym (or-false s.mark) i }

charge_over : (c : ℕ) (s : Spent) → leb (s.units + c) unit_limit ≡ false → charge c s ≡ stop UnitsOut (record { units = unit_limit; passes = s.passes; mark = s.mark })
unfolding charge
charge_over c s e = rw (e, charge)

pub steady_units : (c : ℕ) → Steady of_run (charge c)
unfolding charge
steady_units c = steady_charge of_run (charge c) (some_units c)
    (λ u q. rw (leb_true _ _ q.0, charge) (ap (done tt) (by_units u c)))
    (λ u q short. on_bool (leb (u.units + c) unit_limit)
    (λ e. absurd (short (leb_yes _ _ e, omega arith)))
    (λ e. record { number = UnitsOut; after = _; stops = charge_over c u e; why = units_over (leb_over _ _ e) }))

-- ---- `one_pass`

abbrev a_pass : Spent
a_pass = record { units = 0; passes = 1; mark = false }

by_passes : (s : Spent) → ◌≡◌ {A = Spent} (record { units = s.units; passes = s.passes + 1; mark = s.mark }) (more s a_pass)
by_passes s i = record { units = sym (add-zero s.units) i; passes = s.passes + 1; mark = sym (or-false s.mark) i }

pass_over : (s : Spent) → leb (s.passes + 1) pass_limit ≡ false → one_pass s ≡ stop PassesOut s
unfolding one_pass
pass_over s e = rw (e, one_pass)

pub steady_pass : Steady of_run one_pass
unfolding one_pass
steady_pass = steady_charge of_run one_pass a_pass
    (λ u q. rw (leb_true _ _ q.1, one_pass) (ap (done tt) (by_passes u)))
    (λ u q short. on_bool (leb (u.passes + 1) pass_limit)
    (λ e. absurd (short (omega arith, leb_yes _ _ e)))
    (λ e. record { number = PassesOut; after = _; stops = pass_over u e; why = passes_over (leb_over _ _ e) }))

-- ---- `mark_if`

abbrev a_mark : Bool → Spent
a_mark b = record { units = 0; passes = 0; mark = b }

by_mark : (s : Spent) (b : Bool) → ◌≡◌ {A = Spent} (record { units = s.units; passes = s.passes; mark = s.mark || b }) (more s (a_mark b))
by_mark s b i = record { units = sym (add-zero s.units) i; passes = sym (add-zero s.passes) i; mark = s.mark || b }

pub steady_mark : (b : Bool) → Steady of_run (mark_if b)
unfolding mark_if
steady_mark b = steady_charge of_run (mark_if b) (a_mark b) (λ u q. ap (done tt) (by_mark u b)) (λ u q short. absurd (short (omega arith, omega arith)))

-- what steady work gives does not depend on what was spent before
pub steady_gives : {A : Type 0} {m : W A} → Steady of_run m → (s t s' t' : Spent) (a b : A) → Fits s → Fits s' → m s ≡ done a t → m s' ≡ done b t' → a ≡ b
steady_gives st s t s' t' a b f f' h h' =
    let k = st s t a f h in
    let k' = st s' t' b f' h' in
    let p = k.anew of_run.nothing (omega (arith, k.room), omega (arith, k.room)) in
    let p' = k'.anew of_run.nothing (omega (arith, k'.room), omega (arith, k'.room)) in
    given {c = _} {d = _} (sym p ∙ p')
  where
    given : {c d : Spent} → done a c ≡ done b d → a ≡ b
    given e = cc
