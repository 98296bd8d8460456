-- The promise of evaluate is met by one outcome only: the answer, and every byte of the output and of the room. Assumes nothing.
use Prim.Native.Nat.{ℕ}
use mathlib.Core.Path.{◌≡◌, refl, ap}
use mathlib.Core.List.{List}
use lib.ListN.{length}
use native.Mathlib.Omega.{arith}
use Rattle.std.specs.Prelude.{Result, Ok, Err}
use Rattle.refusals.specs.declared.Refusal.{Refusal}
use Rattle.refusals.specs.Numbers.{number_of}
use Rattle.refusals.proofs.Only.{number_only}
use Rattle.meaning.specs.Outcome.{Settles}
use Rattle.meaning.proofs.Lent.{Lossless}
use Rattle.meaning.proofs.Lent as lent
use Rattle.evaluation.specs.declared.Evaluated.{Evaluated}
use Rattle.evaluation.specs.Bytes.{outcome, says}

same : (a b : Result Evaluated Refusal) → says a ≡ says b → a ≡ b
unfolding says
same (Ok x) (Ok y) e = let h : x.length ≡ y.length = cc in let i : x.steps ≡ y.steps = cc in let j : x.units ≡ y.units = cc in rw (h, i, j) refl
same (Ok x) (Err n) e = let z : ◌≡◌ {A = ℕ} 0 1 = cc in absurd (omega arith)
same (Err m) (Ok y) e = let z : ◌≡◌ {A = ℕ} 0 1 = cc in absurd (omega arith)
same (Err m) (Err n) e = let i : number_of m ≡ number_of n = cc in ap Err (number_only m n i)

pub lossless : Lossless says
lossless = record { same = same }

pub only_one : (forms room out : List ℕ) (first : ℕ) (r₁ r₂ o₁ o₂ : List ℕ) (a b : Result Evaluated Refusal)
    → Settles says (outcome forms first (length room) (length out)) room r₁ out o₁ a
    → Settles says (outcome forms first (length room) (length out)) room r₂ out o₂ b
    → (a ≡ b) × (r₁ ≡ r₂) × (o₁ ≡ o₂)
only_one forms room out first r₁ r₂ o₁ o₂ a b h k = lent.only_one says lossless _ room r₁ r₂ out o₁ o₂ a b h k
