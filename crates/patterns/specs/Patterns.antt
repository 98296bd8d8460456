-- The nodes that stand for the rules' patterns.
use Rattle.std.specs.Prelude.{ℕ, ◌+◌, ◌≡◌, List}
use Rattle.meaning.specs.Tree.{Tree, pair, nil, byte}
use Rattle.meaning.specs.Substitute.{cons_pattern}
use Rattle.meaning.specs.Rules.{cons_optimizer_pattern, apply_pattern, atom_pattern, quote_pattern_1, apply_null_pattern_1}
use Rattle.store.specs.declared.Charges.{Charges}
use Rattle.store.specs.Nodes.{tree_at}
use Rattle.store.specs.Store.{Ready}
use Rattle.store.specs.Makers.{Grown}
use Rattle.patterns.specs.declared.Patterns.{Patterns}
use Rattle.patterns.specs.declared.Prepared.{Prepared}
use Rattle.patterns.specs.declared.Both.{Both}
use Rattle.patterns.specs.declared.Others.{Others}

-- the node n stands for t
pub record Shows (f s : List ℕ) (c : Charges) (n : ℕ) (t : Tree) : Type 0 where
  pub ready : Ready f s c n
  pub tree : tree_at f s n ≡ t

-- each node stands for its pattern
pub record Patterned (f s : List ℕ) (c : Charges) (p : Patterns) : Type 0 where
  pub cons : Shows f s c p.cons cons_pattern
  pub first_cons : Shows f s c p.first_cons (cons_optimizer_pattern 5)
  pub rest_cons : Shows f s c p.rest_cons (cons_optimizer_pattern 6)
  pub apply : Shows f s c p.apply apply_pattern
  pub first_atom : Shows f s c p.first_atom (atom_pattern 5)
  pub rest_atom : Shows f s c p.rest_atom (atom_pattern 6)
  pub quote_nil : Shows f s c p.quote_nil quote_pattern_1
  pub apply_nil : Shows f s c p.apply_nil apply_null_pattern_1

-- (f X) and (r X), laid in k bytes free of units
pub record BothLaid (f s s' : List ℕ) (c : Charges) (k : ℕ) (x : Tree) (a : Both) : Type 0 where
  pub grown : Grown f s s' c a.ch
  pub inner : Shows f s' a.ch a.inner x
  pub first : Shows f s' a.ch a.first (pair (byte 5) (pair x nil))
  pub rest : Shows f s' a.ch a.rest (pair (byte 6) (pair x nil))
  pub units : a.ch.units ≡ c.units
  pub free : a.ch.free ≡ c.free + k

-- the patterns that stand alone
pub record OthersLaid (f s s' : List ℕ) (c : Charges) (a : Others) : Type 0 where
  pub grown : Grown f s s' c a.ch
  pub apply : Shows f s' a.ch a.apply apply_pattern
  pub quote_nil : Shows f s' a.ch a.quote_nil quote_pattern_1
  pub apply_nil : Shows f s' a.ch a.apply_nil apply_null_pattern_1
  pub units : a.ch.units ≡ c.units
  pub free : a.ch.free ≡ c.free + 219

-- bytes that the patterns take
abbrev pub patterns_free : ℕ
patterns_free = 505

-- the patterns are laid
pub record PatternsLaid (f s s' : List ℕ) (c : Charges) (a : Prepared) : Type 0 where
  pub grown : Grown f s s' c a.ch
  pub patterned : Patterned f s' a.ch a.patterns
  pub units : a.ch.units ≡ c.units
  pub free : a.ch.free ≡ c.free + patterns_free
