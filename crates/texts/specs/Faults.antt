-- Where a text stops: from its bytes, and the length of the lent room, to the outcome.
use Rattle.std.specs.Prelude.{ℕ, List, [], ◌∷◌, true, false, leb, length, Result, Ok, Err}
use Rattle.std.specs.Prelude.{Option as Perhaps, Some, None}
use Rattle.std.proofs.Math.Option.{Option, none, some}
use Rattle.refusals.specs.declared.Refusal.{Refusal}
use Rattle.refusals.specs.declared.Refusal.TheVariants.{TextLong}
use Rattle.refusals.specs.Numbers.{number_of}
use Rattle.meaning.specs.Outcome.{Outcome, plain, answered, refused, in_room, Told, values, number}
use Rattle.notation.specs.Texts.{text_limit}
use Rattle.notation.specs.Faults.{fault}

-- nothing is written; told are 1 and the place, or 0 and 0 where the text parses
unfoldable pub delivered_fault : Option ℕ → Outcome
delivered_fault (some p) = answered [] plain (1 ∷ p ∷ [])
delivered_fault none = answered [] plain (0 ∷ 0 ∷ [])

-- refusal 16 before it, and no other
unfoldable pub seen_fault : List ℕ → Outcome
unfolding delivered_fault fault
seen_fault text = elim (leb (length text) text_limit) [ true ↦ delivered_fault (fault text) | false ↦ refused TextLong ]

-- the text, and how many bytes of room are lent
unfoldable pub fault_outcome : List ℕ → ℕ → Outcome
unfolding seen_fault in_room
fault_outcome text room-length = in_room room-length (seen_fault text)

-- what `text_fault` says
unfoldable pub fault_says : Result (Perhaps ℕ) Refusal → Told
fault_says (Ok (Some p)) = values plain (1 ∷ p ∷ [])
fault_says (Ok None) = values plain (0 ∷ 0 ∷ [])
fault_says (Err n) = number (number_of n)
