-- The cycle: the steps left fall at every expression. One law for each call and each return.
use Prim.Native.Nat.{◌+◌, ◌-◌, ◌*◌}
use Rattle.meaning.specs.Evaluate.{evaluate}
use Rattle.store.specs.Nodes.{tree_at}
use Rattle.evaluator.specs.Values.{state, Asks}
use Rattle.evaluator.proofs.Each as each
use Rattle.evaluator.proofs.+evaluating.Given as goal

abbrev pub decreases-call : goal.decreases-call
decreases-call l = 4 * (4097 - l.m.steps) + 2

abbrev pub decreases-eval_each : goal.decreases-eval_each
decreases-eval_each l = 4 * (4097 - l.m.steps) + 1

abbrev pub decreases-eval_node : goal.decreases-eval_node
decreases-eval_node l = 4 * (4097 - l.m.steps)

abbrev pub decreases-step : goal.decreases-step
decreases-step l = 4 * (4097 - l.m.steps) + 3

abbrev pub invariant-eval_each-loop-e : goal.invariant-eval_each-loop-e
invariant-eval_each-loop-e l = each.Each l.form l.initial.room l.initial.s l.list l.env l.room l.s l.p l.k l.v

abbrev pub decreases-eval_each-loop-e : goal.decreases-eval_each-loop-e
decreases-eval_each-loop-e l = l.p

abbrev pub invariant-eval_node-loop-t : goal.invariant-eval_node-loop-t
invariant-eval_node-loop-t l = Asks l.form l.initial.room l.room l.initial.t l.t l.p l.q (evaluate (tree_at l.form l.initial.room l.e) (tree_at l.form l.initial.room l.env) (state l.initial.t))

abbrev pub decreases-eval_node-loop-t : goal.decreases-eval_node-loop-t
decreases-eval_node-loop-t l = 4096 - l.t.steps
