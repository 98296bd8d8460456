-- Digits and the number that they say, for the contracts of the parts.
use Rattle.std.specs.Prelude.{ℕ, ◌+◌, ◌-◌, ◌*◌, ◌^◌, ◌<◌, ◌≡◌, List, [], ◌∷◌, Bool, true, false, ◌&&◌, leb, drop}

-- each is a digit
unfoldable pub digits : List ℕ → Bool
digits [] = true
digits (c ∷ cs) = elim (leb 0x30 c && leb c 0x39) [ true ↦ digits cs | false ↦ false ]

-- each is a digit, and there is one
unfoldable pub some_digits : List ℕ → Bool
unfolding digits
some_digits [] = false
some_digits (c ∷ cs) = digits (c ∷ cs)

-- the number that digits after a number n say
unfoldable pub value_from : ℕ → List ℕ → ℕ
value_from n [] = n
value_from n (c ∷ cs) = value_from (n * 10 + (c - 0x30)) cs

-- n is what the digits from at to end say: they take any number before them on to what n says after it
pub record Chunk (w : List ℕ) (at end n : ℕ) : Type 0 where
  pub small : n < 10 ^ (end - at)
  pub reads : (v : ℕ) → value_from (v * 10 ^ (end - at) + n) (drop end w) ≡ value_from v (drop at w)
