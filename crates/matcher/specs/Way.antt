-- The way down from the root to the place of a failure.
use Rattle.std.specs.Prelude.{ℕ, ◌≡◌, List, [], ◌∷◌, Bool, Option, Some, None}
use Rattle.meaning.specs.Number.{onto}
use Rattle.meaning.specs.Match as meaning
use Rattle.store.specs.declared.Charges.{Charges}
use Rattle.store.specs.Nodes.{tree_at}
use Rattle.store.specs.Store.{Ready}
use Rattle.pattern.specs.Bound.{bindings_at, Bound}
use Rattle.matcher.specs.declared.way.Part.{Part}

-- the match of the two parts that stand against each other
unfoldable pub match_of : List ℕ → List ℕ → Part → meaning.Match
unfolding meaning.match_sexp
match_of f s w = meaning.match_sexp (tree_at f s w.pattern) (tree_at f s w.node) (bindings_at f s w.ks)

-- it is of nodes, and it fails
pub record OnWay (f s : List ℕ) (c : Charges) (w : Part) : Type 0 where
  pub pattern : Ready f s c w.pattern
  pub node : Ready f s c w.node
  pub bound : Bound f s c w.ks
  pub fails : meaning.no ≡ meaning.verdict (match_of f s w)

-- v is the part of w on one side: w's match fails where v's does, a turn further
pub record Below (f s s' : List ℕ) (c : Charges) (w v : Part) : Type 0 where
  pub on : OnWay f s' c v
  pub turn : Bool
  pub whole : match_of f s w ≡ meaning.in_part turn (match_of f s' v)
  pub path : v.turn ≡ onto (turn ∷ []) 1

unfoldable pub StepOk : List ℕ → List ℕ → List ℕ → Charges → Part → Option Part → Type 0
StepOk f s s' c w (Some v) = Below f s s' c w v
StepOk f s s' c w None = meaning.no_match [] ≡ match_of f s w
