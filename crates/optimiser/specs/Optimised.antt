-- What `optimise` answers and what every lent byte holds after it: from the definition's run.
use Rattle.refusals.specs.declared.Refusal.{Refusal}
use Rattle.std.specs.Prelude.{Result, Ok, Err}
use Rattle.std.specs.Prelude.{ℕ, List, [], ◌∷◌, length}
use Rattle.refusals.specs.Numbers.{number_of}
use Rattle.meaning.specs.Outcome.{plain, Told, values, number, Settles}
use Rattle.meaning.specs.Run.{mark_number, run}
use Rattle.optimiser.specs.declared.Report.{Report}

-- "An answer returns length, passes, units and mark", "every refusal returns only its number"
unfoldable pub says : Result Report Refusal → Told
unfolding mark_number
says (Ok r) = values plain (r.length ∷ r.passes ∷ r.units ∷ mark_number r.mark ∷ [])
says (Err n) = number (number_of n)

-- the promise of `optimise`: the form, and the lent room and output before; the answer; the room and the output after
abbrev pub Optimised : List ℕ → List ℕ → List ℕ → Result Report Refusal → List ℕ → List ℕ → Type 0
Optimised form room out answer room' out' = Settles says (run form (length room) (length out)) room room' out out' answer
