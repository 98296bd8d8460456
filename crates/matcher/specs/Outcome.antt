-- Matching on bytes alone: from the two forms' bytes, and the lengths of the lent room and output, to the outcome.
use Rattle.std.specs.Prelude.{ℕ, ◌≤◌, ◌≡◌, List, [], ◌∷◌, ◌++◌, length, take, drop, Result, Ok, Err}
use Rattle.refusals.specs.declared.Refusal.{Refusal}
use Rattle.refusals.specs.Numbers.{number_of}
use Rattle.meaning.specs.Tree.{atom}
use Rattle.meaning.specs.Meter.{Out, done, stop}
use Rattle.meaning.specs.Form.{Reading, write}
use Rattle.meaning.specs.Match as meaning
use Rattle.meaning.specs.Outcome.{Outcome, plain, no_match, too_many_names, answered, refused, deliver, ended, in_room, Told, values, number, Settles}
use Rattle.form.specs.Both.{read_both}
use Rattle.matcher.specs.declared.Parts.{Parts}
use Rattle.matcher.specs.declared.Verdict.{Verdict}
use Rattle.matcher.specs.declared.Matching.{Matching}
use Rattle.matcher.specs.declared.Verdict.TheVariants.{Matched, NoMatch, TooManyNames}

-- both forms are read, on one budget; and then they are matched
unfoldable pub worked : List ℕ → List ℕ → Out Reading meaning.Match
unfolding read_both meaning.match_sexp
worked pattern expression = elim (read_both pattern expression) [
  | done b r ↦ done (meaning.match_sexp b.one b.other []) r
  | stop n r ↦ stop n r
]

-- for each binding two parts: the name's atom and the tree, written
unfoldable pub parts : List meaning.Binding → List (List ℕ)
unfolding write
parts [] = []
parts (b ∷ bs) = write (atom b.name) ∷ write b.node ∷ parts bs

-- one after the other
unfoldable pub joined : List (List ℕ) → List ℕ
joined [] = []
joined (p ∷ ps) = p ++ joined ps

-- where the first k parts end: a part that is not there has no bytes
unfoldable pub end : ℕ → List meaning.Binding → ℕ
unfolding parts joined
end k ks = length (joined (take k (parts ks)))

-- a match's parts: how many names, and where each of the four parts ends; a match that fails writes nothing, and tells the 64 bytes of its place
unfoldable pub delivered : ℕ → meaning.Match → Outcome
unfolding parts joined end deliver meaning.place meaning.place_bytes
delivered out-length (meaning.matched ks) = deliver out-length (joined (parts ks)) (length ks ∷ end 1 ks ∷ end 2 ks ∷ end 3 ks ∷ end 4 ks ∷ [])
delivered out-length (meaning.no_match ds) = answered [] no_match (meaning.place_bytes (meaning.place (meaning.no_match ds)))
delivered out-length meaning.too_many_names = answered [] too_many_names []

-- what comes of the two forms, with so many bytes of output
unfoldable pub ending : List ℕ → List ℕ → ℕ → Outcome
unfolding worked delivered ended
ending pattern expression out-length = ended (λ m s. delivered out-length m) (worked pattern expression)

-- the two forms, how long the first is, how many bytes of room are lent, how many of output
unfoldable pub outcome : List ℕ → ℕ → ℕ → ℕ → Outcome
unfolding ending in_room
outcome forms first room-length out-length = in_room room-length (ending (take first forms) (drop first forms) out-length)

-- what an answer and the place beside it say: how many names and where each of the four parts ends; or that there is no match, and where
unfoldable pub says_at : List ℕ → Result Verdict Refusal → Told
says_at place (Ok (Matched e)) = values plain (e.count ∷ e.name_1 ∷ e.node_1 ∷ e.name_2 ∷ e.node_2 ∷ [])
says_at place (Ok NoMatch) = values no_match place
says_at place (Ok TooManyNames) = values too_many_names []
says_at place (Err n) = number (number_of n)

-- what `matches` says
unfoldable pub says : Matching → Told
unfolding says_at
says m = says_at m.place m.answer

-- the place beside an outcome: zero where there is none
unfoldable pub place_of : Outcome → List ℕ
unfolding meaning.place_bytes
place_of (answered bytes plain ns) = meaning.place_bytes 0
place_of (answered bytes no_match ns) = ns
place_of (answered bytes too_many_names ns) = meaning.place_bytes 0
place_of (refused n) = meaning.place_bytes 0

-- the promise of `matches`: the answer, every lent byte, and the place
pub record Matches (o : Outcome) (s s' w w' : List ℕ) (m : Matching) : Type 0 where
  pub settles : Settles says o s s' w w' m
  pub place : m.place ≡ place_of o

-- what follows for the ends: they stand in order, within n bytes
pub record Within (e : Parts) (n : ℕ) : Type 0 where
  pub first : e.name_1 ≤ e.node_1
  pub second : e.node_1 ≤ e.name_2
  pub third : e.name_2 ≤ e.node_2
  pub last : e.node_2 ≤ n
