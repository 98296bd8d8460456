-- The one proof of the driver's cycle: one line a need; the laws are in driver_parts, Keeping and Changing.
use mathlib.Core.Path.{◌≡◌}
use lib.ListN.{length}
use Prim.Native.Nat.{◌+◌, ◌-◌, ◌*◌}
use Rattle.meaning.specs.Limits.{pass_limit, height_at}
use Rattle.meaning.specs.Driver.{ends}
use Rattle.meaning.proofs.LogSteps.{ends_over, pass_ends}
use Rattle.store.specs.Nodes.{tree_at}
use Rattle.driver_parts.proofs.Chunk as chunk
use Rattle.driver_parts.proofs.Looping as looping
use Rattle.driver_parts.proofs.Turning as turning
use Rattle.run_state.specs.Work.{spent_of}
use Rattle.run_state.specs.State.{Valid}
use Rattle.run_state.proofs.Noting.{Sofar}
use Rattle.driver.proofs.+driving.Given as goal

abbrev pub decreases-children_optimizer : goal.decreases-children_optimizer
decreases-children_optimizer l = (66 - l.nest) * 70_000 + 65_541

abbrev pub decreases-drive : goal.decreases-drive
decreases-drive l = (66 - l.nest) * 70_000 + 65_545

abbrev pub decreases-operands : goal.decreases-operands
decreases-operands l = (66 - l.nest) * 70_000 + l.list

abbrev pub decreases-optimizer : goal.decreases-optimizer
decreases-optimizer l = (66 - l.nest) * 70_000 + 65_543

abbrev pub decreases-settle : goal.decreases-settle
decreases-settle l = (66 - l.nest) * 70_000 + 65_541

abbrev pub decreases-turn : goal.decreases-turn
decreases-turn l = (66 - l.nest) * 70_000 + 65_544

abbrev pub decreases-var_change_optimizer_cons_eval : goal.decreases-var_change_optimizer_cons_eval
decreases-var_change_optimizer_cons_eval l = (66 - l.nest) * 70_000 + 65_542

abbrev pub invariant-drive-loop-s : goal.invariant-drive-loop-s
invariant-drive-loop-s l = looping.Looping l.form l.p l.nest l.initial.room l.initial.s.w l.n l.room l.s.w l.r l.moved × Valid l.form l.room l.row l.s × (length l.row ≡ length l.initial.row) × Sofar l.notes l.initial.row l.row (ends (height_at l.nest) (tree_at l.form l.initial.room l.n) (spent_of l.initial.s.w)) (ends (height_at l.nest) (tree_at l.form l.room l.r) (spent_of l.s.w))

abbrev pub decreases-drive-loop-s : goal.decreases-drive-loop-s
decreases-drive-loop-s l = pass_limit - l.s.w.passes

abbrev pub invariant-operands-elements : goal.invariant-operands-elements
invariant-operands-elements l = chunk.Chunk l.form l.p l.nest l.list l.count l.flag l.initial.room l.initial.s.w l.room l.s.w l.q l.seen l.got l.k × Valid l.form l.room l.row l.s × (length l.row ≡ length l.initial.row) × Sofar l.notes l.initial.row l.row (ends_over (height_at (l.nest + 1)) (tree_at l.form l.initial.room l.list) (spent_of l.initial.s.w)) (ends_over (height_at (l.nest + 1)) (tree_at l.form l.room l.q) (spent_of l.s.w))

abbrev pub decreases-operands-elements : goal.decreases-operands-elements
decreases-operands-elements l = l.q

abbrev pub invariant-turn-loop-rule : goal.invariant-turn-loop-rule
invariant-turn-loop-rule l = turning.Turning l.form l.p l.nest l.initial.room l.initial.s.w l.n l.room l.s.w l.rule × Valid l.form l.room l.row l.s × (length l.row ≡ length l.initial.row) × Sofar l.notes l.initial.row l.row (pass_ends (height_at (l.nest + 1)) 1 (tree_at l.form l.initial.room l.n) (spent_of l.initial.s.w)) (pass_ends (height_at (l.nest + 1)) l.rule (tree_at l.form l.initial.room l.n) (spent_of l.s.w))
