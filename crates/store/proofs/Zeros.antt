-- As many zeros, in std's word.
use Rattle.std.proofs.Common.{◌≡◌, ℕ, List, [], ◌∷◌, length, refl, ap}
use Rattle.std.proofs.Math.ListN.{replicate}
use Rattle.meaning.specs.Outcome.{zeroed}

pub zeros_are : (s : List ℕ) → replicate (length s) 0 ≡ zeroed s
unfolding zeroed
zeros_are [] = refl
zeros_are (x ∷ xs) = ap (λ (l : List ℕ). 0 ∷ l) (zeros_are xs)
