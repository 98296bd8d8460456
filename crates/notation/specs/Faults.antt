-- Where the reading of a text stops, if it doesn't parse.
use Rattle.std.specs.Prelude.{ℕ, ◌-◌, List, [], ◌∷◌, length, drop}
use Rattle.std.proofs.Math.Option.{Option, none, some}
use Rattle.meaning.specs.Meter.{done, stop}
use Rattle.notation.specs.Grammar.{Spot, spot, spots, tree_of_text}

-- the place of the first of these tokens; where there is none, the text's end
unfoldable pub first_place : List Spot → ℕ → ℕ
first_place [] end = end
first_place (spot t i ∷ ss) end = i

-- the place of the first of a text's last k tokens
unfoldable pub place_of_last : List ℕ → ℕ → ℕ
unfolding spots first_place
place_of_last text k = first_place (drop (length (spots text) - k) (spots text)) (length text)

-- where the reading stops: the place, from 0 on, of the token that may not stand there, or the text's end where more is wanted; none where the text parses
unfoldable pub fault : List ℕ → Option ℕ
unfolding tree_of_text place_of_last
fault text = elim (tree_of_text text) [ done t ts ↦ none | stop n ts ↦ some (place_of_last text (length ts)) ]
