-- The walk over a list that rules 4 and 5 share, and what it says.
use Rattle.std.specs.Prelude.{Option as Perhaps, Some, None}
use Rattle.std.specs.Prelude.{ℕ, zero, suc, ◌≡◌, List, Bool, true, false, not, ◌||◌, get_or}
use Rattle.std.proofs.Math.Option.{Option, none, some}
use Rattle.refusals.specs.declared.Refusal.{Refusal}
use Rattle.meaning.specs.Tree.{Tree}
use Rattle.meaning.specs.Meter.{W, Out, done, stop, Spent}
use Rattle.meaning.specs.Rules.{non_constant}
use Rattle.meaning.proofs.Operands.{work, join, counts, differs}
use Rattle.store.specs.Nodes.{tree_at}
use Rattle.store.specs.Store.{Ready}
use Rattle.store.specs.Makers.{Grown}
use Rattle.run_state.specs.declared.Outcome.{Outcome}
use Rattle.run_state.specs.declared.Outcome.TheVariants.{Same, Changed, Stopped}
use Rattle.run_state.specs.declared.Work.{Work}
use Rattle.run_state.specs.Work.{spent_of}
use Rattle.sexp.specs.Lists.{Items}
use Rattle.driver_parts.specs.declared.Element.{Element}
use Rattle.driver_parts.specs.Turns.{Unmoved}

-- what sets the flag: in rule 4 (count) that an operand counts, in rule 5 that an element differs
abbrev pub test_of : Bool → Tree → Tree → Bool
test_of true = counts
test_of false = differs

-- rule 4 makes its list where the flag is never set, rule 5 where it is
unfoldable pub walk : Bool → (Tree → W Tree) → Bool → Tree → W (Option Tree)
unfolding work
walk count again flag t = work (test_of count) (not count) again flag t

-- is the list made?
unfoldable pub made_list : Bool → Bool → Bool
made_list true flag = not flag
made_list false flag = flag

-- does an element that became t, and moved or not, set the flag?
unfoldable pub sets_flag : Bool → Bool → Tree → Bool
unfolding non_constant
sets_flag true moved t = non_constant t
sets_flag false moved t = moved

-- the first k results before what came of the rest
unfoldable pub wrap : List ℕ → List ℕ → List ℕ → ℕ → Out Spent (Option Tree) → Out Spent (Option Tree)
unfolding join
wrap f s got zero o = o
wrap f s got (suc k) o = wrap f s got k (join (tree_at f s (get_or got k 0)) o)

-- no list was made
pub record Unmade (f s s' : List ℕ) (w w' : Work) (def : Out Spent (Option Tree)) : Type 0 where
  pub grown : Grown f s s' w.ch w'.ch
  pub gives : def ≡ done none (spent_of w')

-- a list was made, which now stands at m
pub record MadeAt (f s s' : List ℕ) (w w' : Work) (m : ℕ) (def : Out Spent (Option Tree)) : Type 0 where
  pub grown : Grown f s s' w.ch w'.ch
  pub ready : Ready f s' w'.ch m
  pub gives : def ≡ done (some (tree_at f s' m)) (spent_of w')

-- the walk was refused
pub record BrokenBy (r : Refusal) (def : Out Spent (Option Tree)) : Type 0 where
  pub after : Spent
  pub stops : def ≡ stop r after

-- what the outcome says of the walk `def`
unfoldable pub Walks : List ℕ → List ℕ → List ℕ → Work → Work → Out Spent (Option Tree) → Outcome → Type 0
Walks f s s' w w' def Same = Unmade f s s' w w' def
Walks f s s' w w' def (Changed m) = MadeAt f s s' w w' m def
Walks f s s' w w' def (Stopped r) = BrokenBy r def

-- the work after, read by its outcome
unfoldable pub Walked : List ℕ → List ℕ → List ℕ → Work → Out Spent (Option Tree) → Work → Type 0
unfolding Walks
Walked f s s' w def w' = Walks f s s' w w' def w'.last

-- ---- what came of the rest of a list, and of an element

-- the list of the rest is a node, and so are the results
unfoldable pub Puttable : List ℕ → List ℕ → Work → List ℕ → ℕ → Outcome → Type 0
Puttable f s w got k Same = Unit
Puttable f s w got k (Changed m) = Ready f s w.ch m × Items s w.ch got k
Puttable f s w got k (Stopped e) = Unit

-- the results stand before it, where it was made
unfoldable pub PutBefore : List ℕ → List ℕ → List ℕ → Work → List ℕ → ℕ → Work → Outcome → Type 0
unfolding Walked wrap
PutBefore f s s' w got k q Same = Unmoved s s' w q
PutBefore f s s' w got k q (Changed m) = Walked f s s' w (wrap f s got k (done (some (tree_at f s m)) (spent_of w))) q
PutBefore f s s' w got k q (Stopped e) = Unmoved s s' w q

-- what the element was worked into is a node
unfoldable pub Stands : List ℕ → List ℕ → Work → ℕ → Outcome → Type 0
Stands f s w h Same = Ready f s w.ch h
Stands f s w h (Changed m) = Ready f s w.ch m
Stands f s w h (Stopped e) = Unit

-- the node that the element became, and the flag after it
pub record BecameAt (f s : List ℕ) (m n : ℕ) (count moved flag b : Bool) : Type 0 where
  pub node : n ≡ m
  pub sets : b ≡ (flag || sets_flag count moved (tree_at f s m))

unfoldable pub Became : List ℕ → List ℕ → ℕ → Bool → Bool → Perhaps Element → Outcome → Type 0
Became f s h count flag (Some a) Same = BecameAt f s h a.node count false flag a.flag
Became f s h count flag (Some a) (Changed m) = BecameAt f s m a.node count true flag a.flag
Became f s h count flag (Some a) (Stopped e) = ⊥
Became f s h count flag None Same = ⊥
Became f s h count flag None (Changed m) = ⊥
Became f s h count flag None (Stopped e) = Unit
