-- Two forms that stand one after the other in one slice, read on one budget of units.
use Rattle.refusals.specs.declared.Refusal.{Refusal}
use Rattle.std.specs.Prelude.{Result, Ok, Err}
use Rattle.std.specs.Prelude.{ℕ, ◌≤◌, ◌≡◌, List, length, take, drop}
use Rattle.meaning.specs.Tree.{Tree}
use Rattle.meaning.specs.Meter.{Out, done, stop}
use Rattle.meaning.specs.Form.{Reading, read_form}
use Rattle.store.specs.declared.Charges.{Charges}
use Rattle.store.specs.Nodes.{tree_at}
use Rattle.store.specs.Store.{Ready}
use Rattle.form.specs.declared.Two.{Two}
use Rattle.form.specs.Spans.{left_from, Stops}

-- the two trees
pub record Both : Type 0 where
  pub one : Tree
  pub other : Tree

-- the first form is read, then the second from the units that the first cost
unfoldable pub read_both : List ℕ → List ℕ → Out Reading Both
unfolding read_form
read_both first second = elim (read_form first 0) [
  | done t s ↦ elim (read_form second s.units) [
    | done u r ↦ done (record { one = t; other = u }) r
    | stop n r ↦ stop n r
  ]
  | stop n s ↦ stop n s
]

-- r is n, or where the forms end if they are shorter
pub record Cut (f : List ℕ) (n r : ℕ) : Type 0 where
  pub within : r ≤ length f
  pub front : take r f ≡ take n f
  pub back : drop r f ≡ drop n f

-- the definition's outcome o is the trees of the nodes a and b, with what c says charged
pub record TwoTo (f s : List ℕ) (c : Charges) (a b : ℕ) (o : Out Reading Both) : Type 0 where
  pub first : Ready f s c a
  pub second : Ready f s c b
  pub is : o ≡ done (record { one = tree_at f s a; other = tree_at f s b }) (left_from f (length f) (length f) c.units)

unfoldable pub TwoOk : List ℕ → List ℕ → Out Reading Both → Result Two Refusal → Type 0
TwoOk f s o (Ok a) = TwoTo f s a.ch a.first a.second o
TwoOk f s o (Err n) = Stops o n
