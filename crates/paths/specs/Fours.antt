-- The bytes that `get_u32` makes of an atom's, for the contract of the one function that reads them in that order.
use Rattle.std.specs.Prelude.{ℕ, ◌%◌, List, [], ◌∷◌, ◌++◌, length, take, drop}

-- each group of four turned round
unfoldable pub fours_turned : List ℕ → List ℕ
fours_turned [] = []
fours_turned (a ∷ []) = []
fours_turned (a ∷ b ∷ []) = []
fours_turned (a ∷ b ∷ c ∷ []) = []
fours_turned (a ∷ b ∷ c ∷ d ∷ bs) = d ∷ c ∷ b ∷ a ∷ fours_turned bs

-- big-endian bytes of `bigint_from_bytes`: the groups of four are counted from the end
unfoldable pub turned : List ℕ → List ℕ
unfolding fours_turned
turned bs = take (length bs % 4) bs ++ fours_turned (drop (length bs % 4) bs)
