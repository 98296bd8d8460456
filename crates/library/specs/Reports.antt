-- What C sees of an outcome: one number, and a lent row of numbers for the report.
use Rattle.std.specs.Prelude.{ℕ, ◌≡◌, List}
use Rattle.meaning.specs.Outcome.{Outcome, plain, no_match, too_many_names, Told, values, number, told, room_after, out_after}

-- an answer is 0, "every refusal returns only its number"; apart from these 100 for no match, 101 for too many names
unfoldable pub number_told : Told → ℕ
number_told (values plain ns) = 0
number_told (values no_match ns) = 100
number_told (values too_many_names ns) = 101
number_told (number n) = n

-- an answer's values in 01's order; whatever is no plain answer leaves the report as it came in
unfoldable pub report_told : Told → List ℕ → List ℕ
report_told (values plain ns) before = ns
report_told (values no_match ns) before = before
report_told (values too_many_names ns) before = before
report_told (number n) before = before

-- the place of a match that fails; whatever else is told leaves the lent place as it came in
unfoldable pub place_told : Told → List ℕ → List ℕ
place_told (values plain ns) before = before
place_told (values no_match place) before = place
place_told (values too_many_names ns) before = before
place_told (number n) before = before

-- the promise of each function: an outcome o; the room s, the output w and the report q before, s', w' and q' after; the number n that is returned
pub record Reports (o : Outcome) (s s' w w' q q' : List ℕ) (n : ℕ) : Type 0 where
  pub returns : n ≡ number_told (told o)
  pub reports : q' ≡ report_told (told o) q
  pub room : s' ≡ room_after o s
  pub out : w' ≡ out_after o w

-- and of the one that is lent 64 bytes for the place too, p before and p' after
pub record Places (o : Outcome) (s s' w w' q q' p p' : List ℕ) (n : ℕ) : Type 0 where
  pub reports : Reports o s s' w w' q q' n
  pub place : p' ≡ place_told (told o) p
