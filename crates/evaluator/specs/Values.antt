-- What the evaluator's answers say of the definition's outcome.
use Rattle.std.specs.Prelude.{Result, Ok, Err}
use Rattle.std.specs.Prelude.{ℕ, ◌≤◌, ◌≡◌, List, eqb, get_or}
use Rattle.std.proofs.Math.Option.{Option, none, some}
use Rattle.refusals.specs.declared.Refusal.{Refusal}
use Rattle.meaning.specs.Tree.{Tree, nil}
use Rattle.meaning.specs.Meter.{Out, done, stop, Steps}
use Rattle.meaning.specs.Evaluate.{evaluate}
use Rattle.store.specs.declared.Charges.{Charges}
use Rattle.store.specs.declared.Made.{Made}
use Rattle.store.specs.Cells.{pick}
use Rattle.store.specs.Nodes.{tree_at}
use Rattle.store.specs.Store.{Ready}
use Rattle.store.specs.Makers.{Grown}
use Rattle.evaluator.specs.declared.Meter.{Meter}
use Rattle.evaluator.specs.declared.Valued.{Valued}
use Rattle.evaluator.specs.declared.Values.{Values}
use Rattle.evaluator.specs.declared.Args.{Args}
use Rattle.evaluator.specs.declared.Performed.{Performed}
use Rattle.evaluator.specs.declared.Performed.TheVariants.{Done, Runs}

-- a meter as the definition's state
abbrev pub state : Meter → Steps
state m = record { steps = m.steps; units = m.ch.units }

-- the refusal that work ends in; the code's answer is its number alone
unfoldable pub stopped : {S A : Type 0} → Out S A → Option Refusal
stopped (done a s) = none
stopped (stop n s) = some n

-- ---- a value

-- work's value stands at the node q, in a room that grew
pub record Given (f s s' : List ℕ) (m m' : Meter) (q : ℕ) (o : Out Steps Tree) : Type 0 where
  pub grown : Grown f s s' m.ch m'.ch
  pub ready : Ready f s' m'.ch q
  pub free : m'.ch.free ≡ m.ch.free
  pub value : o ≡ done (tree_at f s' q) (state m')

-- from the room s and the meter m to the room s' and an answer, where the outcome is o
unfoldable pub ValuedOk : List ℕ → List ℕ → List ℕ → Meter → Out Steps Tree → Result Valued Refusal → Type 0
unfolding stopped
ValuedOk f s s' m o (Ok a) = Given f s s' m a.meter a.node o
ValuedOk f s s' m o (Err r) = stopped o ≡ some r

-- what a maker made, with the steps
abbrev pub metered : Made → ℕ → Valued
metered a k = record { node = a.node; meter = record { steps = k; ch = a.ch } }

-- ---- the values of the arguments

-- each is a node
pub record Nodes (f s : List ℕ) (c : Charges) (v : Values) : Type 0 where
  pub first : Ready f s c v.a
  pub second : Ready f s c v.b
  pub third : Ready f s c v.c

-- q in place of the value at k, where it is one of the three
abbrev pub put_value : Values → ℕ → ℕ → Values
put_value v k q = record { a = pick (eqb k 0) q v.a; b = pick (eqb k 1) q v.b; c = pick (eqb k 2) q v.c }

-- they stand for the first three of vs, or nil
pub record Stand (f s : List ℕ) (v : Values) (vs : List Tree) : Type 0 where
  pub first : tree_at f s v.a ≡ get_or vs 0 nil
  pub second : tree_at f s v.b ≡ get_or vs 1 nil
  pub third : tree_at f s v.c ≡ get_or vs 2 nil

-- all values were given, and v has the first three
pub record AllGiven (f s s' : List ℕ) (m m' : Meter) (v : Values) (o : Out Steps (List Tree)) : Type 0 where
  pub grown : Grown f s s' m.ch m'.ch
  pub free : m'.ch.free ≡ m.ch.free
  pub later : m.steps ≤ m'.steps
  pub nodes : Nodes f s' m'.ch v
  pub values : List Tree
  pub stand : Stand f s' v values
  pub value : o ≡ done values (state m')

unfoldable pub ArgsOk : List ℕ → List ℕ → List ℕ → Meter → Out Steps (List Tree) → Result Args Refusal → Type 0
unfolding stopped
ArgsOk f s s' m o (Ok a) = AllGiven f s s' m a.meter a.values o
ArgsOk f s s' m o (Err r) = stopped o ≡ some r

-- ---- what comes of an expression or of an operator's arguments

-- a program is left to run in an environment, in a room that grew, and gives the outcome
pub record Asks (f s s' : List ℕ) (m m' : Meter) (p e : ℕ) (o : Out Steps Tree) : Type 0 where
  pub grown : Grown f s s' m.ch m'.ch
  pub free : m'.ch.free ≡ m.ch.free
  pub later : m.steps ≤ m'.steps
  pub program : Ready f s' m'.ch p
  pub environment : Ready f s' m'.ch e
  pub gives : o ≡ evaluate (tree_at f s' p) (tree_at f s' e) (state m')

-- a value, a program to run, or a refusal, where the outcome is o
unfoldable pub PerformedOk : List ℕ → List ℕ → List ℕ → Meter → Out Steps Tree → Result Performed Refusal → Type 0
unfolding stopped
PerformedOk f s s' m o (Ok (Done a)) = Given f s s' m a.meter a.node o
PerformedOk f s s' m o (Ok (Runs p e m')) = Asks f s s' m m' p e o
PerformedOk f s s' m o (Err r) = stopped o ≡ some r

-- an answer, as what comes
abbrev pub answered : Result Valued Refusal → Result Performed Refusal
answered (Ok a) = Ok (Done a)
answered (Err r) = Err r
