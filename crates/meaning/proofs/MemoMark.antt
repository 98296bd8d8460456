-- An entry of the memo need not keep the mark: later in the run that stored it, what it marked is marked. Assumes nothing.
use Prim.Native.Nat.{◌+◌}
use mathlib.Core.Path.{◌≡◌, refl, sym, ◌∙◌, ap}
use mathlib.Core.Bool.{Bool, true, false, ◌||◌, or-true}
use Rattle.meaning.specs.Meter.{W, Spent, done}
use Rattle.meaning.proofs.Cost.{Steady}
use Rattle.meaning.proofs.CostRun.{of_run, more, Fits}

-- the mark of s covers that of a cost
abbrev pub Marked : Spent → Spent → Type 0
Marked c s = c.mark ≡ true → s.mark ≡ true

-- it does where the cost has just been paid
pub just_marked : (s c x : Spent) → x ≡ more s c → Marked c x
just_marked s c x e m = ap (λ (z : Spent). z.mark) e ∙ ap (s.mark ||◌) m ∙ or-true s.mark

-- and after any work that follows
pub still_marked : {A : Type 0} {m : W A} → Steady of_run m → (c s x : Spent) (a : A) → Fits s → m s ≡ done a x → Marked c s → Marked c x
still_marked st c s x a f h w e = let k = st s x a f h in ap (λ (z : Spent). z.mark) k.spent ∙ ap (◌|| k.cost.mark) (w e)

-- so that to pay it once more leaves the mark as it is
pub marked_more : (s c : Spent) → Marked c s → more s c ≡ record { units = s.units + c.units; passes = s.passes + c.passes; mark = s.mark }
marked_more s c w = ap (λ (b : Bool). record { units = s.units + c.units; passes = s.passes + c.passes; mark = b }) (covered s.mark c.mark w)
  where
    covered : (a b : Bool) → (b ≡ true → a ≡ true) → (a || b) ≡ a
    covered true b h = refl
    covered false true h = sym (h refl)
    covered false false h = refl
