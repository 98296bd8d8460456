-- The promise of `optimise` is met by one outcome only: the answer, and every byte of the room and of the output. Assumes nothing.
use Rattle.refusals.specs.declared.Refusal.{Refusal}
use Rattle.std.specs.Prelude.{Result, Ok, Err}
use mathlib.Core.Path.{◌≡◌, ap}
use mathlib.Core.List.{List}
use Prim.Native.Nat.{ℕ}
use native.Mathlib.Omega.{arith}
use Rattle.refusals.specs.Numbers.{number_of}
use Rattle.refusals.proofs.Only.{number_only}
use Rattle.meaning.proofs.Lent.{Lossless}
use Rattle.meaning.proofs.Lent as lent
use Rattle.meaning.proofs.RunLaws.{mark_only}
use Rattle.optimiser.specs.declared.Report.{Report}
use Rattle.optimiser.specs.Optimised.{says, Optimised}

-- an answer is known by what it says
same : (a b : Result Report Refusal) → says a ≡ says b → a ≡ b
unfolding says
same (Ok q) (Ok r) e =
    let l : q.length ≡ r.length = cc in
    let p : q.passes ≡ r.passes = cc in
    let u : q.units ≡ r.units = cc in
    let m : q.mark ≡ r.mark = mark_only q.mark r.mark (cc) in
    ap Ok (λ i. record { length = l i; passes = p i; units = u i; mark = m i })
same (Ok q) (Err n) e = let z : ◌≡◌ {A = ℕ} 0 1 = cc in absurd (omega arith)
same (Err m) (Ok r) e = let z : ◌≡◌ {A = ℕ} 0 1 = cc in absurd (omega arith)
same (Err m) (Err n) e = let i : number_of m ≡ number_of n = cc in ap Err (number_only m n i)

pub lossless : Lossless says
lossless = record { same = same }

-- two outcomes that meet the promise on the same input are the same
pub only_one : (form room out room₁ room₂ out₁ out₂ : List ℕ) (a b : Result Report Refusal) → Optimised form room out a room₁ out₁ → Optimised form room out b room₂ out₂
    → (a ≡ b) × (room₁ ≡ room₂) × (out₁ ≡ out₂)
only_one form room out room₁ room₂ out₁ out₂ a b h k = lent.only_one says lossless _ room room₁ room₂ out out₁ out₂ a b h k
