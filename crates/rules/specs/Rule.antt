-- What the rules' own functions answer and ask.
use Rattle.std.specs.Prelude.{Option as Got, Some, None}
use Rattle.std.specs.Prelude.{ℕ, ◌≡◌, List, false}
use Rattle.std.proofs.Math.Option.{some}
use Rattle.meaning.specs.Tree.{Tree, atom, equal_to}
use Rattle.meaning.specs.Rules.{applied, not_applied}
use Rattle.meaning.specs.Rules.{Applied as Rules-as-Applied}
use Rattle.store.specs.declared.Charges.{Charges}
use Rattle.store.specs.Nodes.{tree_at}
use Rattle.store.specs.Store.{Ready}
use Rattle.store.specs.Makers.{Grown}
use Rattle.pattern.specs.Bound.{got_at, GotIn}
use Rattle.rules.specs.declared.Applied.{Applied}

-- ---- 3.: the S and the ARGS, as nodes

abbrev pub both_of : Got ℕ → Got ℕ → Got Applied
both_of (Some s) (Some a) = Some (record { body = s; args = a })
both_of (Some s) None = None
both_of None a = None

unfoldable pub applied_at : List ℕ → List ℕ → Got Applied → Rules-as-Applied
applied_at f s (Some a) = applied (tree_at f s a.body) (tree_at f s a.args)
applied_at f s None = not_applied

unfoldable pub AppliedIn : List ℕ → List ℕ → Charges → Got Applied → Type 0
AppliedIn f s c (Some a) = Ready f s c a.body × Ready f s c a.args
AppliedIn f s c None = Unit {0}

-- the answer, read in the room after, is m; what was found are nodes; and nothing changed but what is remembered
pub record AppliedOk (f s s' : List ℕ) (c : Charges) (a : Got Applied) (m : Rules-as-Applied) : Type 0 where
  pub answer : applied_at f s' a ≡ m
  pub found : AppliedIn f s' c a
  pub grown : Grown f s s' c c

-- ---- 6.: what is asked where an atom was found in n

-- no path is what n stands for
pub record PathAsks (f s : List ℕ) (c : Charges) (n : ℕ) : Type 0 where
  pub ready : Ready f s c n
  pub other : (bs : List ℕ) → equal_to (tree_at f s n) (atom bs) ≡ false

-- the same, if a name is bound; what it is bound to is a node
pub record LongerAsks (f s : List ℕ) (c : Charges) (n : ℕ) (g : Got ℕ) : Type 0 where
  pub ready : Ready f s c n
  pub found : GotIn f s c g
  pub other : (t : Tree) (bs : List ℕ) → got_at f s g ≡ some t → equal_to (tree_at f s n) (atom bs) ≡ false
