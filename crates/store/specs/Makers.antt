-- What a change of the store gives and keeps.
use Rattle.std.specs.Prelude.{◌≡◌, ℕ, ◌+◌, ◌<◌, ◌≤◌, Bool, List, length, nat_le, Result, Ok, Err}
use Rattle.refusals.specs.declared.Refusal.{Refusal}
use Rattle.refusals.specs.declared.Refusal.TheVariants.{UnitsOut}
use Rattle.meaning.specs.Tree.{Tree}
use Rattle.meaning.specs.Limits.{unit_limit}
use Rattle.store.specs.declared.Charges.{Charges}
use Rattle.store.specs.declared.Made.{Made}
use Rattle.store.specs.declared.Cell.TheVariants.{Atom}
use Rattle.store.specs.Cells.{pick, cell_at, Starts}
use Rattle.store.specs.Nodes.{tree_at}
use Rattle.store.specs.Store.{Held, Ready}

-- the room s became s': what were nodes are nodes, and stand for the same trees
pub record Grown (f s s' : List ℕ) (c c' : Charges) : Type 0 where
  pub held : Held f s' c'
  pub long : length s' ≡ length s
  pub ends : c.end ≤ c'.end
  pub nodes : (m : ℕ) → Starts s m → m ≤ c.end → Starts s' m
  pub trees : (m : ℕ) → Starts s m → m < c.end → tree_at f s' m ≡ tree_at f s m

-- the node q now stands for t
pub record Stands (f s s' : List ℕ) (c c' : Charges) (q : ℕ) (t : Tree) : Type 0 where
  pub grown : Grown f s s' c c'
  pub ready : Ready f s' c' q
  pub tree : tree_at f s' q ≡ t

-- ---- charging

abbrev pub spend : Charges → ℕ → Charges
spend c k = record { units = c.units + k; free = c.free; end = c.end; top = c.top }

-- refusal 7, at the store
unfoldable pub charged : Charges → ℕ → Result Charges Refusal
charged c cost = pick (nat_le (c.units + cost) unit_limit) (Ok (spend c cost)) (Err UnitsOut)

-- q stands for t, at a cost in units
pub record Bought (f s s' : List ℕ) (c c' : Charges) (cost q : ℕ) (t : Tree) : Type 0 where
  pub stands : Stands f s s' c c' q t
  pub units : c'.units ≡ c.units + cost
  pub free : c'.free ≡ c.free

-- refusal 7: the cost goes over the units
pub record Over (c : Charges) (cost : ℕ) (r : Refusal) : Type 0 where
  pub refusal : r ≡ UnitsOut
  pub over : unit_limit < c.units + cost

-- what a maker answers: a node that stands for t, or that its cost goes over the units
unfoldable pub MadeOk : List ℕ → List ℕ → List ℕ → Charges → ℕ → Tree → Result Made Refusal → Type 0
MadeOk f s s' c cost t (Ok a) = Bought f s s' c a.ch cost a.node t
MadeOk f s s' c cost t (Err r) = Over c cost r

-- ---- without units

-- a record was put at the end of the records
pub record Put (f s s' : List ℕ) (c c' : Charges) (t : Tree) : Type 0 where
  pub stands : Stands f s s' c c' c.end t
  pub units : c'.units ≡ c.units
  pub free : c'.free ≡ c.free

abbrev pub lend : Charges → ℕ → Charges
lend c k = record { units = c.units; free = c.free + k; end = c.end; top = c.top }

-- a tree was laid in k bytes free of units
pub record LaidOk (f s s' : List ℕ) (c : Charges) (k : ℕ) (t : Tree) (a : Made) : Type 0 where
  pub stands : Stands f s s' c a.ch a.node t
  pub units : a.ch.units ≡ c.units
  pub free : a.ch.free ≡ c.free + k

-- a store that has nil only
pub record Begun (f s : List ℕ) (c : Charges) : Type 0 where
  pub ready : Ready f s c 0
  pub units : c.units ≡ 0
  pub free : c.free ≡ 5

-- an answer b, with nothing changed but what is remembered
pub record Answered (f s s' : List ℕ) (c : Charges) (a b : Bool) : Type 0 where
  pub answer : a ≡ b
  pub grown : Grown f s s' c c

-- the pair n and the node m, at or below it, stand for the same tree
pub record Joins (f s : List ℕ) (c : Charges) (n m : ℕ) : Type 0 where
  pub upper : Ready f s c n
  pub lower : Ready f s c m
  pub below : m ≤ n
  pub is_pair : cell_at s n ≡ Atom → ⊥
  pub tree : tree_at f s m ≡ tree_at f s n
