-- What bindings held by nodes stand for, and what the matcher answers.
use Rattle.std.specs.Prelude.{Option as Got, Some, None}
use Rattle.std.specs.Prelude.{ℕ, ◌≤◌, ◌≡◌, List, [], ◌∷◌, take, eqb}
use Rattle.std.proofs.Math.Option.{Option, none, some}
use Rattle.meaning.specs.Tree.{Tree}
use Rattle.meaning.specs.Match as meaning
use Rattle.store.specs.declared.Cell.TheVariants.{Atom}
use Rattle.store.specs.declared.Charges.{Charges}
use Rattle.store.specs.Cells.{cell_at, bytes_at, pick}
use Rattle.store.specs.Nodes.{tree_at}
use Rattle.store.specs.Store.{Ready}
use Rattle.store.specs.Makers.{Grown}
use Rattle.pattern.specs.declared.Bindings.{Bindings}
use Rattle.pattern.specs.declared.Match.{Match}
use Rattle.pattern.specs.declared.Match.TheVariants.{Matched, NoMatch, TooManyNames}

-- ---- bindings

-- a name's bytes, and the tree that it is bound to
unfoldable pub binding_at : List ℕ → List ℕ → ℕ → ℕ → meaning.Binding
binding_at f s name node = record { name = bytes_at f s name; node = tree_at f s node }

-- the bindings that stand at (form, room)
unfoldable pub bindings_at : List ℕ → List ℕ → Bindings → List meaning.Binding
unfolding binding_at
bindings_at f s ks = take ks.count (binding_at f s ks.name_1 ks.node_1 ∷ binding_at f s ks.name_2 ks.node_2 ∷ [])

-- a name is a node whose cell is an atom
pub record Named (f s : List ℕ) (c : Charges) (n : ℕ) : Type 0 where
  pub ready : Ready f s c n
  pub is_atom : cell_at s n ≡ Atom

-- all that bindings hold are nodes (a place that is not in use holds nil)
pub record Bound (f s : List ℕ) (c : Charges) (ks : Bindings) : Type 0 where
  pub few : ks.count ≤ 2
  pub first_name : Named f s c ks.name_1
  pub first_node : Ready f s c ks.node_1
  pub second_name : Named f s c ks.name_2
  pub second_node : Ready f s c ks.node_2

abbrev pub no_bindings : Bindings
no_bindings = record { count = 0; name_1 = 0; node_1 = 0; name_2 = 0; node_2 = 0 }

-- `new_bindings.insert`
unfoldable pub inserted : Bindings → ℕ → ℕ → Match
inserted ks name node =
    pick (eqb ks.count 0) (Matched (record { count = 1; name_1 = name; node_1 = node; name_2 = 0; node_2 = 0 }))
    (pick (eqb ks.count 1) (Matched (record { count = 2; name_1 = ks.name_1; node_1 = ks.node_1; name_2 = name; node_2 = node })) TooManyNames)

-- ---- the matcher's answer

-- it says no more of a failure than the Rust does
unfoldable pub match_at : List ℕ → List ℕ → Match → meaning.Verdict
unfolding bindings_at
match_at f s (Matched ks) = meaning.yes (bindings_at f s ks)
match_at f s NoMatch = meaning.no
match_at f s TooManyNames = meaning.third_name

unfoldable pub BoundIn : List ℕ → List ℕ → Charges → Match → Type 0
BoundIn f s c (Matched ks) = Bound f s c ks
BoundIn f s c NoMatch = Unit {0}
BoundIn f s c TooManyNames = Unit {0}

-- the answer, read in the room after, is m without its turns; what it binds are nodes; and nothing changed but what is remembered
pub record MatchOk (f s s' : List ℕ) (c : Charges) (a : Match) (m : meaning.Match) : Type 0 where
  pub answer : match_at f s' a ≡ meaning.verdict m
  pub bound : BoundIn f s' c a
  pub grown : Grown f s s' c c

-- ---- what a name is bound to

unfoldable pub got_at : List ℕ → List ℕ → Got ℕ → Option Tree
got_at f s (Some n) = some (tree_at f s n)
got_at f s None = none

unfoldable pub GotIn : List ℕ → List ℕ → Charges → Got ℕ → Type 0
GotIn f s c (Some n) = Ready f s c n
GotIn f s c None = Unit {0}

-- the answer, read in the room after, is t; what was found is a node; and nothing changed but what is remembered
pub record GotOk (f s s' : List ℕ) (c : Charges) (g : Got ℕ) (t : Option Tree) : Type 0 where
  pub answer : got_at f s' g ≡ t
  pub found : GotIn f s' c g
  pub grown : Grown f s s' c c
