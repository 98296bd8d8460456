-- Each of the library's promises is met by one outcome only: the number, the report, and every lent byte. Assumes nothing.
use mathlib.Core.Path.{◌≡◌, sym, ◌∙◌}
use mathlib.Core.List.{List}
use Prim.Native.Nat.{ℕ}
use Rattle.meaning.specs.Outcome.{Outcome}
use Rattle.library.specs.Reports.{Reports, Places}

-- for any outcome, so for those of all functions
pub only_one : (o : Outcome) (s w q s₁ w₁ q₁ s₂ w₂ q₂ : List ℕ) (m n : ℕ) → Reports o s s₁ w w₁ q q₁ m → Reports o s s₂ w w₂ q q₂ n
    → (m ≡ n) × (s₁ ≡ s₂) × (w₁ ≡ w₂) × (q₁ ≡ q₂)
only_one o s w q s₁ w₁ q₁ s₂ w₂ q₂ m n a b = (a.returns ∙ sym b.returns, a.room ∙ sym b.room, a.out ∙ sym b.out, a.reports ∙ sym b.reports)

-- and one place
pub only_place : (o : Outcome) (s w q p s₁ w₁ q₁ p₁ s₂ w₂ q₂ p₂ : List ℕ) (m n : ℕ) → Places o s s₁ w w₁ q q₁ p p₁ m → Places o s s₂ w w₂ q q₂ p p₂ n
    → ((m ≡ n) × (s₁ ≡ s₂) × (w₁ ≡ w₂) × (q₁ ≡ q₂)) × (p₁ ≡ p₂)
only_place o s w q p s₁ w₁ q₁ p₁ s₂ w₂ q₂ p₂ m n a b = (only_one o s w q s₁ w₁ q₁ s₂ w₂ q₂ m n a.reports b.reports, a.place ∙ sym b.place)
