-- Each public promise is met by one outcome only: the answer, and every byte of the output and of the room. Assumes nothing.
use Prim.Native.Nat.{ℕ}
use mathlib.Core.Path.{◌≡◌, refl, ap}
use mathlib.Core.List.{List, []}
use native.Mathlib.Omega.{arith}
use lib.ListN.{length}
use Rattle.std.specs.Prelude.{Result, Ok, Err, Option as Perhaps, Some, None}
use Rattle.refusals.specs.declared.Refusal.{Refusal}
use Rattle.meaning.specs.Outcome.{Settles}
use Rattle.refusals.specs.Numbers.{number_of}
use Rattle.refusals.proofs.Only.{number_only}
use Rattle.meaning.proofs.Lent.{Lossless, only_one}
use Rattle.form.specs.declared.Written.{Written}
use Rattle.form.specs.Bytes.{write_says}
use Rattle.form.proofs.OnlyOne.{write_lossless}
use Rattle.optimiser.specs.declared.Report.{Report}
use Rattle.optimiser.specs.Optimised.{says as run-says}
use Rattle.optimiser.proofs.OnlyOne.{lossless as run-lossless}
use Rattle.evaluation.specs.declared.Evaluated.{Evaluated}
use Rattle.evaluation.specs.Bytes.{says as value-says}
use Rattle.evaluation.proofs.OnlyOne.{lossless as value-lossless}
use Rattle.texts.specs.Outcomes.{read_text_outcome, write_text_outcome, optimise_text_outcome, evaluate_text_outcome}
use Rattle.texts.specs.Faults.{fault_outcome, fault_says}

module _ (room out r₁ r₂ o₁ o₂ : List ℕ) where
  pub read_text_only_one : (text : List ℕ) (a b : Result Written Refusal) → Settles write_says (read_text_outcome text (length room) (length out)) room r₁ out o₁ a
      → Settles write_says (read_text_outcome text (length room) (length out)) room r₂ out o₂ b → (a ≡ b) × (r₁ ≡ r₂) × (o₁ ≡ o₂)
  read_text_only_one text a b h k = only_one write_says write_lossless _ room r₁ r₂ out o₁ o₂ a b h k

  pub write_text_only_one : (form : List ℕ) (a b : Result Written Refusal) → Settles write_says (write_text_outcome form (length room) (length out)) room r₁ out o₁ a
      → Settles write_says (write_text_outcome form (length room) (length out)) room r₂ out o₂ b → (a ≡ b) × (r₁ ≡ r₂) × (o₁ ≡ o₂)
  write_text_only_one form a b h k = only_one write_says write_lossless _ room r₁ r₂ out o₁ o₂ a b h k

  pub optimise_text_only_one : (text : List ℕ) (a b : Result Report Refusal) → Settles run-says (optimise_text_outcome text (length room) (length out)) room r₁ out o₁ a
      → Settles run-says (optimise_text_outcome text (length room) (length out)) room r₂ out o₂ b → (a ≡ b) × (r₁ ≡ r₂) × (o₁ ≡ o₂)
  optimise_text_only_one text a b h k = only_one run-says run-lossless _ room r₁ r₂ out o₁ o₂ a b h k

  pub evaluate_text_only_one : (texts : List ℕ) (first : ℕ) (a b : Result Evaluated Refusal) → Settles value-says (evaluate_text_outcome texts first (length room) (length out)) room r₁ out o₁ a
      → Settles value-says (evaluate_text_outcome texts first (length room) (length out)) room r₂ out o₂ b → (a ≡ b) × (r₁ ≡ r₂) × (o₁ ≡ o₂)
  evaluate_text_only_one texts first a b h k = only_one value-says value-lossless _ room r₁ r₂ out o₁ o₂ a b h k

-- ---- text_fault

fault_same : (a b : Result (Perhaps ℕ) Refusal) → fault_says a ≡ fault_says b → a ≡ b
unfolding fault_says
fault_same (Ok (Some p)) (Ok (Some q)) e = let i : p ≡ q = cc in ap (λ (k : ℕ). Ok (Some k)) i
fault_same (Ok (Some p)) (Ok None) e = let z : ◌≡◌ {A = ℕ} 1 0 = cc in absurd (omega arith)
fault_same (Ok (Some p)) (Err n) e = let z : ◌≡◌ {A = ℕ} 0 1 = cc in absurd (omega arith)
fault_same (Ok None) (Ok (Some q)) e = let z : ◌≡◌ {A = ℕ} 0 1 = cc in absurd (omega arith)
fault_same (Ok None) (Ok None) e = refl
fault_same (Ok None) (Err n) e = let z : ◌≡◌ {A = ℕ} 0 1 = cc in absurd (omega arith)
fault_same (Err m) (Ok (Some q)) e = let z : ◌≡◌ {A = ℕ} 0 1 = cc in absurd (omega arith)
fault_same (Err m) (Ok None) e = let z : ◌≡◌ {A = ℕ} 0 1 = cc in absurd (omega arith)
fault_same (Err m) (Err n) e = let i : number_of m ≡ number_of n = cc in ap Err (number_only m n i)

-- what it says loses nothing
pub fault_lossless : Lossless fault_says
fault_lossless = record { same = fault_same }

pub text_fault_only_one : (text room r₁ r₂ : List ℕ) (a b : Result (Perhaps ℕ) Refusal) → Settles fault_says (fault_outcome text (length room)) room r₁ [] [] a
    → Settles fault_says (fault_outcome text (length room)) room r₂ [] [] b → (a ≡ b) × (r₁ ≡ r₂)
text_fault_only_one text room r₁ r₂ a b h k = let (i, j, l) = only_one fault_says fault_lossless _ room r₁ r₂ [] [] [] a b h k in (i, j)
