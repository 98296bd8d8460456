-- The walk over a list that rules 4 and 5 share, as code goes it: a flag goes down the list, which is made anew from its end if the flag ends as wanted. Assumes nothing.
use mathlib.Core.Bool.{Bool, true, false, ◌||◌, not}
use mathlib.Core.Option.{Option, none, some}
use Rattle.meaning.specs.Tree.{Tree, atom, pair, equal_to}
use Rattle.meaning.specs.Limits.{pair_cost}
use Rattle.meaning.specs.Meter.{W, Out, Spent, done, stop, ◌>>=◌, ◌>>◌, give, charge}
use Rattle.meaning.specs.Rules.{non_constant}

-- does the flag end as wanted?
unfoldable pub as_wanted : Bool → Bool → Bool
as_wanted true flag = flag
as_wanted false flag = not flag

-- the list's end, if the list is made
unfoldable pub ending : Bool → Tree → Option Tree
ending true t = some t
ending false t = none

-- a worked element before what came of the rest
unfoldable pub before : Tree → Option Tree → W (Option Tree)
unfolding charge give ◌>>◌
before u none = give none
before u (some m) = charge pair_cost >> give (some (pair u m))

-- `test t u` sets the flag, where t was worked into u; the list is made if the flag ends as wanted
unfoldable pub work : (Tree → Tree → Bool) → Bool → (Tree → W Tree) → Bool → Tree → W (Option Tree)
unfolding as_wanted ending before give ◌>>=◌
work test wanted again flag (atom b) = give (ending (as_wanted wanted flag) (atom b))
work test wanted again flag (pair h t) = do
  u ← again h
  o ← work test wanted again (flag || test h u) t
  before u o

-- rule 4's list is made if the flag, that an operand counts, is never set
abbrev pub counts : Tree → Tree → Bool
counts t u = non_constant u

-- rule 5's list is made if the flag, that an element differs, is set
abbrev pub differs : Tree → Tree → Bool
differs t u = not (equal_to t u)

-- a worked element before an outcome
unfoldable pub join : Tree → Out Spent (Option Tree) → Out Spent (Option Tree)
unfolding before
join u o = elim o [ done a x ↦ before u a x | stop n x ↦ stop n x ]
