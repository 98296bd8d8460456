-- The memo's law: a call of the driver that ended repeats, from any charges with room and at any nesting with room. Assumes nothing.
use Prim.Native.Nat.{ℕ, ◌+◌, ◌≤◌}
use mathlib.Core.Path.{◌≡◌, refl, sym, ◌∙◌, ap}
use native.Mathlib.Omega.{arith}
use Rattle.refusals.specs.declared.Refusal.{Refusal}
use Rattle.refusals.specs.declared.Refusal.TheVariants.{UnitsOut, PassesOut}
use Rattle.meaning.specs.Limits.{unit_limit, pass_limit}
use Rattle.meaning.specs.Tree.{Tree}
use Rattle.meaning.specs.Meter.{W, Spent, done}
use Rattle.meaning.specs.Driver.{optimize_sexp}
use Rattle.meaning.proofs.Cost.{Costs, Refused}
use Rattle.meaning.proofs.CostRun.{of_run, more, Fits, Over, units_over, passes_over}
use Rattle.meaning.proofs.CostDriver.{steady_driver}
use Rattle.meaning.proofs.Depth.{deeper}

-- what a memo may hold: a tree, what became of it, what that cost, and how many calls it nested
pub record Entry (tree result : Tree) (cost : Spent) (height : ℕ) : Type 0 where
  -- with room for the cost and the height the work would end the same, and cost the same
  pub works : (d : ℕ) (s : Spent) → height ≤ d → Fits (more s cost) → optimize_sexp d tree s ≡ done result (more s cost)
  -- without room for the cost it would be refused, by a limit that the cost crosses
  pub refused : (d : ℕ) (s : Spent) → height ≤ d → Fits s → ¬ (Fits (more s cost)) → Refused of_run (optimize_sexp d tree) s cost

-- what was spent in all settles the cost
same_cost : (s c c' x : Spent) → x ≡ more s c → x ≡ more s c' → (c.units ≡ c'.units) × (c.passes ≡ c'.passes)
same_cost s c c' x p q =
    let e : more s c ≡ more s c' = sym p ∙ q in
    let u : s.units + c.units ≡ s.units + c'.units = ap (λ (z : Spent). z.units) e in
    let v : s.passes + c.passes ≡ s.passes + c'.passes = ap (λ (z : Spent). z.passes) e in
    (omega arith, omega arith)

over_same : (s c c' : Spent) (n : Refusal) → c.units ≡ c'.units → c.passes ≡ c'.passes → Over (more s c') n → Over (more s c) n
over_same s c c' n p q (units_over h) = units_over (omega arith)
over_same s c c' n p q (passes_over h) = passes_over (omega arith)

refused_same : {m : W Tree} (s c c' : Spent) → c.units ≡ c'.units → c.passes ≡ c'.passes → Refused of_run m s c' → Refused of_run m s c
refused_same s c c' p q v = record { number = v.number; after = v.after; stops = v.stops; why = over_same s c c' v.number p q v.why }

-- finished work may be stored
pub stored : (h : ℕ) (t u : Tree) (s x : Spent) → Fits s → optimize_sexp h t s ≡ done u x → (c : Spent) × (x ≡ more s c) × Entry t u c h
stored h t u s x r e = (k.cost, k.spent, record { works = λ d y l q. deeper h d l t y _ u (k.anew y q); refused = refused })
  where
    k : Costs of_run (optimize_sexp h t) u s x
    k = steady_driver h t s x u r e

    refused : (d : ℕ) (y : Spent) → h ≤ d → Fits y → ¬ (Fits (more y k.cost)) → Refused of_run (optimize_sexp d t) y k.cost
    refused d y l q short =
        let k' = steady_driver d t s x u r (deeper h d l t s x u e) in
        let (i, j) = same_cost s k.cost k'.cost x k.spent k'.spent in
        refused_same y k.cost k'.cost i j (k'.refused y q (λ f. short (omega arith)))

-- ---- which refusal it is, where only one limit is crossed

pub units_refuse : (s : Spent) (n : Refusal) → Over s n → s.passes ≤ pass_limit → n ≡ UnitsOut
units_refuse s n (units_over h) l = refl
units_refuse s n (passes_over h) l = absurd (omega arith)

pub passes_refuse : (s : Spent) (n : Refusal) → Over s n → s.units ≤ unit_limit → n ≡ PassesOut
passes_refuse s n (units_over h) l = absurd (omega arith)
passes_refuse s n (passes_over h) l = refl
