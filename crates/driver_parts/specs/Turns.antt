-- The driver at a nesting, a rule by its number, and what the driver's functions ask.
use Rattle.std.specs.Prelude.{ℕ, ◌+◌, ◌-◌, ◌<◌, ◌≤◌, ◌≡◌, List, Bool, true, false, get_or}
use Rattle.refusals.specs.declared.Refusal.{Refusal}
use Rattle.meaning.specs.Tree.{Tree, atom, pair}
use Rattle.meaning.specs.Limits.{pass_limit, height_at}
use Rattle.meaning.specs.Meter.{W, done, stop, give, one_pass, mark_if, ◌>>◌}
use Rattle.meaning.specs.Operator.{is_pair}
use Rattle.meaning.specs.Driver.{optimizers, pass, optimize_sexp}
use Rattle.store.specs.declared.Charges.{Charges}
use Rattle.store.specs.Nodes.{tree_at}
use Rattle.store.specs.Store.{Ready}
use Rattle.patterns.specs.declared.Patterns.{Patterns}
use Rattle.patterns.specs.Patterns.{Patterned}
use Rattle.run_state.specs.declared.Outcome.{Outcome}
use Rattle.run_state.specs.declared.Outcome.TheVariants.{Same, Changed, Stopped}
use Rattle.run_state.specs.declared.Work.{Work}
use Rattle.run_state.specs.Work.{spent_of, with_last, Did}

-- the driver one deeper than the nesting
abbrev pub again : ℕ → Tree → W Tree
again nest t = optimize_sexp (height_at (nest + 1)) t

-- the rule of this number: 1 to 8
unfoldable pub optimizer : (Tree → W Tree) → ℕ → Tree → W Tree
unfolding optimizers give
optimizer again k = get_or (optimizers again) (k - 1) give

-- a rule that does not call the driver
pub record Simple (k : ℕ) : Type 0 where
  pub least : 0 < k
  pub most : k ≤ 8
  pub not_4 : k ≡ 4 → ⊥
  pub not_5 : k ≡ 5 → ⊥

-- what a function that works the node n asks: n is a node, the patterns are laid, and the passes are within their limit
pub record Fine (f s : List ℕ) (w : Work) (p : Patterns) (n : ℕ) : Type 0 where
  pub ready : Ready f s w.ch n
  pub patterned : Patterned f s w.ch p
  pub passes : w.passes ≤ pass_limit

-- rule 4 gives back the changed body
unfoldable pub kept : Bool → Tree → W Tree
unfolding mark_if give ◌>>◌
kept low t = mark_if low >> give t

-- nothing was done
pub record Unmoved (s s' : List ℕ) (w q : Work) : Type 0 where
  pub room : s' ≡ s
  pub work : q ≡ w

-- the input and what the body was worked into are nodes
unfoldable pub Keepable : List ℕ → List ℕ → Work → ℕ → ℕ → Outcome → Type 0
Keepable f s w r new Same = Ready f s w.ch r × Ready f s w.ch new
Keepable f s w r new (Changed m) = Ready f s w.ch r × Ready f s w.ch m
Keepable f s w r new (Stopped e) = Unit

-- what the body was worked into is given back
unfoldable pub KeptBody : List ℕ → List ℕ → List ℕ → Work → ℕ → ℕ → Bool → Work → Outcome → Type 0
KeptBody f s s' w r new low q Same = Did f s s' w (tree_at f s r) (kept low (tree_at f s new) (spent_of w)) q
KeptBody f s s' w r new low q (Changed m) = Did f s s' w (tree_at f s r) (kept low (tree_at f s m) (spent_of w)) q
KeptBody f s s' w r new low q (Stopped e) = Unmoved s s' w q

-- the input and the list that was made are nodes
unfoldable pub Listable : List ℕ → List ℕ → Work → ℕ → Outcome → Type 0
Listable f s w r Same = Unit
Listable f s w r (Changed m) = Ready f s w.ch r × Ready f s w.ch m
Listable f s w r (Stopped e) = Unit

-- the list is given back where it was made
unfoldable pub KeptList : List ℕ → List ℕ → List ℕ → Work → ℕ → Bool → Work → Outcome → Type 0
KeptList f s s' w r low q Same = Unmoved s s' w q
KeptList f s s' w r low q (Changed m) = Did f s s' w (tree_at f s r) (kept low (tree_at f s m) (spent_of w)) q
KeptList f s s' w r low q (Stopped e) = Unmoved s s' w q

-- one turn of the driver's loop: a pass on a pair
unfoldable pub one_turn : (Tree → W Tree) → Tree → W Tree
unfolding optimizers pass one_pass give ◌>>◌
one_turn again (atom b) = give (atom b)
one_turn again (pair l r) = one_pass >> pass 1 (optimizers again) (pair l r)

-- a turn begins at a pair: a pass was charged
pub record Started (f s : List ℕ) (w w' : Work) (n : ℕ) : Type 0 where
  pub pairs : is_pair (tree_at f s n) ≡ true
  pub charges : w'.ch ≡ w.ch
  pub pays : one_pass (spent_of w) ≡ done tt (spent_of w')

-- none begins at an atom
pub record EndsAt (f s : List ℕ) (w w' : Work) (n m : ℕ) : Type 0 where
  pub atoms : is_pair (tree_at f s n) ≡ false
  pub node : m ≡ n
  pub work : w' ≡ with_last w (Changed n)

-- the passes are spent
pub record PassesOut (f s : List ℕ) (w : Work) (n : ℕ) (r : Refusal) : Type 0 where
  pub pairs : is_pair (tree_at f s n) ≡ true
  pub refusal : one_pass (spent_of w) ≡ stop r (spent_of w)

unfoldable pub Begins : List ℕ → List ℕ → Work → Work → ℕ → Outcome → Type 0
Begins f s w w' n Same = Started f s w w' n
Begins f s w w' n (Changed m) = EndsAt f s w w' n m
Begins f s w w' n (Stopped r) = PassesOut f s w n r

-- the start of a turn, read by its outcome
unfoldable pub Begun : List ℕ → List ℕ → Work → ℕ → Work → Type 0
unfolding Begins
Begun f s w n w' = Begins f s w w' n w'.last

-- what a call that ended at r says
unfoldable pub outcome_of : Bool → ℕ → Outcome
outcome_of true r = Changed r
outcome_of false r = Same

-- a run's work before anything is done
abbrev pub fresh_work : Charges → Work
fresh_work c = record { ch = c; passes = 0; mark = false; last = Same }
