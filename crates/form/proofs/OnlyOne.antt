-- Each public promise is met by one outcome only: the answer, and every byte of the output and of the room. Assumes nothing.
use Rattle.refusals.specs.declared.Refusal.{Refusal}
use Rattle.std.specs.Prelude.{Result, Ok, Err}
use mathlib.Core.Path.{ap₂}
use mathlib.Core.Path.{◌≡◌, ap}
use mathlib.Core.List.{List, []}
use Prim.Native.Nat.{ℕ}
use native.Mathlib.Omega.{arith}
use lib.ListN.{length}
use Rattle.refusals.specs.Numbers.{number_of}
use Rattle.refusals.proofs.Only.{number_only}
use Rattle.meaning.specs.Outcome.{Settles}
use Rattle.meaning.proofs.Lent.{Lossless, only_one}
use Rattle.form.specs.declared.Written.{Written}
use Rattle.form.specs.Bytes.{read_says, write_says, read_outcome, write_outcome}

read_same : (a b : Result ℕ Refusal) → read_says a ≡ read_says b → a ≡ b
unfolding read_says
read_same (Ok u) (Ok v) e = let i : u ≡ v = cc in ap Ok i
read_same (Ok u) (Err n) e = let z : ◌≡◌ {A = ℕ} 0 1 = cc in absurd (omega arith)
read_same (Err m) (Ok v) e = let z : ◌≡◌ {A = ℕ} 0 1 = cc in absurd (omega arith)
read_same (Err m) (Err n) e = let i : number_of m ≡ number_of n = cc in ap Err (number_only m n i)

write_same : (a b : Result Written Refusal) → write_says a ≡ write_says b → a ≡ b
unfolding write_says
write_same (Ok x) (Ok y) e = let i : x.length ≡ y.length = cc in let j : x.units ≡ y.units = cc in ap₂ (λ (k u : ℕ). Ok (record { length = k; units = u })) i j
write_same (Ok x) (Err n) e = let z : ◌≡◌ {A = ℕ} 0 1 = cc in absurd (omega arith)
write_same (Err m) (Ok y) e = let z : ◌≡◌ {A = ℕ} 0 1 = cc in absurd (omega arith)
write_same (Err m) (Err n) e = let i : number_of m ≡ number_of n = cc in ap Err (number_only m n i)

-- what they say loses nothing
pub read_lossless : Lossless read_says
read_lossless = record { same = read_same }

pub write_lossless : Lossless write_says
write_lossless = record { same = write_same }

pub read_only_one : (form room r₁ r₂ : List ℕ) (a b : Result ℕ Refusal) → Settles read_says (read_outcome form (length room)) room r₁ [] [] a → Settles read_says (read_outcome form (length room)) room r₂ [] [] b → (a ≡ b) × (r₁ ≡ r₂)
read_only_one form room r₁ r₂ a b h k = let (i, j, l) = only_one read_says read_lossless _ room r₁ r₂ [] [] [] a b h k in (i, j)

pub write_only_one : (form room out r₁ r₂ o₁ o₂ : List ℕ) (a b : Result Written Refusal)
    → Settles write_says (write_outcome form (length room) (length out)) room r₁ out o₁ a → Settles write_says (write_outcome form (length room) (length out)) room r₂ out o₂ b → (a ≡ b) × (r₁ ≡ r₂) × (o₁ ≡ o₂)
write_only_one form room out r₁ r₂ o₁ o₂ a b h k = only_one write_says write_lossless _ room r₁ r₂ out o₁ o₂ a b h k
