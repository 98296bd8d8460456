-- What the work of an evaluation on bytes promises.
use Rattle.std.specs.Prelude.{ℕ, ◌≡◌, List, Result, Ok, Err}
use Rattle.std.proofs.Math.Option.{some}
use Rattle.refusals.specs.declared.Refusal.{Refusal}
use Rattle.meaning.specs.Tree.{Tree}
use Rattle.meaning.specs.Meter.{Out, done, Steps}
use Rattle.store.specs.Nodes.{tree_at}
use Rattle.store.specs.Store.{Ready}
use Rattle.evaluator.specs.declared.Meter.{Meter}
use Rattle.evaluator.specs.declared.Valued.{Valued}
use Rattle.evaluator.specs.Values.{state, stopped}

-- the value of both forms stands at the node q
pub record WorkedTo (f s : List ℕ) (m : Meter) (q : ℕ) (o : Out Steps Tree) : Type 0 where
  pub ready : Ready f s m.ch q
  pub is : o ≡ done (tree_at f s q) (state m)

unfoldable pub WorkedOk : List ℕ → List ℕ → Out Steps Tree → Result Valued Refusal → Type 0
unfolding stopped
WorkedOk f s o (Ok a) = WorkedTo f s a.meter a.node o
WorkedOk f s o (Err n) = stopped o ≡ some n
