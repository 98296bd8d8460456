-- The cycle: the steps left fall at every expression. One law for each call and each return.
use native.Mathlib.Omega.{arith}
use borrow.Author.Rules.{rules}
use Rattle.store.proofs.Ready.{room}
use Rattle.evaluator.proofs.Outcomes.{asks_now}
use Rattle.std.proofs.lemmas.Result.{err_from_is_err_and}
use Rattle.evaluator.proofs.Each as each
use Rattle.evaluator.proofs.Cycle as cycle
use Rattle.evaluator.proofs.+evaluating.Goals as goal

pub call-accepts-requires : goal.call-accepts-requires
call-accepts-requires t c = search room

pub call-returns-then-not-accepts : goal.call-returns-then-not-accepts
call-returns-then-not-accepts t c = search cycle.call_refused

pub call-eval_each-requires : goal.call-eval_each-requires
call-eval_each-requires t c = (omega arith, search rules)

pub call-perform-requires : goal.call-perform-requires
call-perform-requires t c = search (cycle.call_nodes, c.in_ok-args.was)

pub call-returns-in_err-args : goal.call-returns-in_err-args
call-returns-in_err-args t c = search (rules, cycle.call_stopped, c.in_err-args.was)

pub call-returns : goal.call-returns
call-returns t c = search (cycle.call_performs, c.in_ok-args.was)

pub eval_each-loop-e-init : goal.eval_each-loop-e-init
eval_each-loop-e-init t c = search each.each_starts

pub eval_each-look_node-requires : goal.eval_each-look_node-requires
eval_each-look_node-requires t c = search each.each_room

pub eval_each-shape_of-room-in-Atom : goal.eval_each-shape_of-room-in-Atom
eval_each-shape_of-room-in-Atom t c = search each.each_length

pub eval_each-returns-in-Atom : goal.eval_each-returns-in-Atom
eval_each-returns-in-Atom t c = search each.each_ends

pub eval_each-eval_node-requires : goal.eval_each-eval_node-requires
eval_each-eval_node-requires t c = (search each.each_down, (search each.each_element, search each.each_env))

pub eval_each-returns-in_err-value-in-Pair : goal.eval_each-returns-in_err-value-in-Pair
eval_each-returns-in_err-value-in-Pair t c = let p = err_from_is_err_and c.from_residual.result c.from_residual.ensures.1 in rw (p.1, p.2) (search (each.each_refused, c.in_err-value-in-Pair.was))

pub eval_each-loop-e-smaller : goal.eval_each-loop-e-smaller
eval_each-loop-e-smaller t c = search each.each_falls

pub eval_each-loop-e-preserved : goal.eval_each-loop-e-preserved
eval_each-loop-e-preserved t c = search (each.each_again, c.in_ok-value-in-Pair.was)

pub eval_node-loop-t-init : goal.eval_node-loop-t-init
eval_node-loop-t-init t c = search asks_now

pub eval_node-shape_of-room-then-t-ge4096 : goal.eval_node-shape_of-room-then-t-ge4096
eval_node-shape_of-room-then-t-ge4096 t c = search cycle.node_length

pub eval_node-returns-then-t-ge4096 : goal.eval_node-returns-then-t-ge4096
eval_node-returns-then-t-ge4096 t c = search cycle.node_out

pub eval_node-step-requires : goal.eval_node-step-requires
eval_node-step-requires t c = (search cycle.node_down, search rules)

pub eval_node-shape_of-room-in-Done : goal.eval_node-shape_of-room-in-Done
eval_node-shape_of-room-in-Done t c = search cycle.node_length

pub eval_node-returns-in-Done : goal.eval_node-returns-in-Done
eval_node-returns-in-Done t c = search (cycle.node_value, c.in_ok-value.was)

pub eval_node-returns-in_err-value : goal.eval_node-returns-in_err-value
eval_node-returns-in_err-value t c = search (rules, cycle.node_refused, c.in_err-value.was)

pub eval_node-loop-t-smaller : goal.eval_node-loop-t-smaller
eval_node-loop-t-smaller t c = search (cycle.node_falls, c.in_ok-value.was)

pub eval_node-loop-t-preserved : goal.eval_node-loop-t-preserved
eval_node-loop-t-preserved t c = search (cycle.node_again, c.in_ok-value.was)

pub step-look_node-requires : goal.step-look_node-requires
step-look_node-requires t c = search room

pub step-path_node-requires : goal.step-path_node-requires
step-path_node-requires t c = (search rules, search rules, search cycle.step_atom)

pub step-head_node-requires : goal.step-head_node-requires
step-head_node-requires t c = search cycle.step_room

pub step-call-requires : goal.step-call-requires
step-call-requires t c = (omega arith, (search cycle.step_list, search rules))

pub step-returns-in-Atom : goal.step-returns-in-Atom
step-returns-in-Atom t c = search cycle.step_path

pub step-returns-in-Quote : goal.step-returns-in-Quote
step-returns-in-Quote t c = search cycle.step_quote

pub step-returns-in-Call : goal.step-returns-in-Call
step-returns-in-Call t c = search cycle.step_call

pub step-returns-in-Other : goal.step-returns-in-Other
step-returns-in-Other t c = search cycle.step_other
