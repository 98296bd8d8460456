-- What the steps promise: the two forms' match in the store, and where the parts end.
use Rattle.std.specs.Prelude.{ℕ, ◌+◌, ◌≡◌, List, [], true, false, leb, length, Option, Some, None, Result, Ok, Err}
use Rattle.refusals.specs.declared.Refusal.{Refusal}
use Rattle.meaning.specs.Match as meaning
use Rattle.meaning.specs.Outcome.{Outcome, no_match, too_many_names, answered, refused, Delivers}
use Rattle.pattern.specs.Bound.{bindings_at, Bound}
use Rattle.matcher.specs.declared.Verdict.{Verdict}
use Rattle.matcher.specs.declared.Worked.{Worked}
use Rattle.matcher.specs.declared.Said.{Said}
use Rattle.matcher.specs.declared.Said.TheVariants.{Bound as bound-to, NoMatch, TooManyNames}
use Rattle.matcher.specs.declared.Parts.{Parts}
use Rattle.matcher.specs.Outcome.{parts, joined, end, delivered, says_at, place_of}

-- what comes of work, as the store shows it, with a place beside it
unfoldable pub outcome_of : List ℕ → List ℕ → ℕ → Result Said Refusal → List ℕ → Outcome
unfolding bindings_at delivered
outcome_of f s out-length (Ok (bound-to ks c)) place = delivered out-length (meaning.matched (bindings_at f s ks))
outcome_of f s out-length (Ok NoMatch) place = answered [] no_match place
outcome_of f s out-length (Ok TooManyNames) place = answered [] too_many_names []
outcome_of f s out-length (Err n) place = refused n

-- what it bound are nodes
unfoldable pub BoundIn : List ℕ → List ℕ → Result Said Refusal → Type 0
BoundIn f s (Ok (bound-to ks c)) = Bound f s c ks
BoundIn f s (Ok NoMatch) = Unit {0}
BoundIn f s (Ok TooManyNames) = Unit {0}
BoundIn f s (Err n) = Unit {0}

-- work from which this outcome and its place come, for any length of output
pub record Shows (f s : List ℕ) (comes : ℕ → Outcome) (w : Worked) : Type 0 where
  pub is : (n : ℕ) → comes n ≡ outcome_of f s n w.said w.place
  pub place : (n : ℕ) → w.place ≡ place_of (comes n)
  pub bound : BoundIn f s w.said

-- what comes of a match, with so many bytes of output
unfoldable pub delivering : meaning.Match → ℕ → Outcome
unfolding delivered
delivering m out-length = delivered out-length m

-- an outcome that has no place
unfoldable pub placeless : Outcome → List ℕ → Outcome
placeless o place = o

-- a result is delivered, the room aside, whatever the place beside it
pub record Answers (o : List ℕ → Outcome) (w w' : List ℕ) (a : Result Verdict Refusal) : Type 0 where
  pub at : (place : List ℕ) → Delivers (says_at place) (o place) w w' a

-- where a and then b bytes end that stand from at on, where a limit allows them
unfoldable pub ends : ℕ → ℕ → ℕ → ℕ → Option (ℕ × ℕ)
ends limit at a b = elim (leb (at + a + b) limit) [ true ↦ Some (at + a, at + a + b) | false ↦ None ]

-- all parts, where a limit allows them
unfoldable pub placed : ℕ → List meaning.Binding → Option Parts
unfolding parts joined end
placed limit ks = elim (leb (length (joined (parts ks))) limit) [
  | true ↦ Some (record { count = length ks; name_1 = end 1 ks; node_1 = end 2 ks; name_2 = end 3 ks; node_2 = end 4 ks })
  | false ↦ None
]
