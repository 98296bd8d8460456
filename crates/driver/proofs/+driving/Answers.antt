-- The one proof of the driver's cycle: one line a need; the laws are in driver_parts, Keeping and Changing.
use mathlib.Core.Path.{refl, ap, ◌∙◌}
use mathlib.Core.Bool.{not}
use borrow.Author.Rules.{rules}
use native.Mathlib.Omega.{arith}
use Rattle.driver_parts.proofs.Choosing as choosing
use Rattle.driver_parts.proofs.Chunk as chunk
use Rattle.driver_parts.proofs.Kept as kept
use Rattle.driver_parts.proofs.Looping as looping
use Rattle.driver_parts.proofs.Settling as settling
use Rattle.driver_parts.proofs.Turning as turning
use Rattle.driver.proofs.Changing as changing
use Rattle.driver.proofs.Keeping as keeping
use Rattle.driver.proofs.Logging as logging
use Rattle.run_state.proofs.Entries as entries
use Rattle.run_state.proofs.Noting.{sofar_starts}
use Rattle.driver.proofs.+driving.Goals as goal

pub children_optimizer-is_quote_node-requires : goal.children_optimizer-is_quote_node-requires
children_optimizer-is_quote_node-requires t c = search kept.fine_room

pub children_optimizer-returns-then-is_quote_node : goal.children_optimizer-returns-then-is_quote_node
children_optimizer-returns-then-is_quote_node t c = (search choosing.children_quote, search keeping.said, search logging.quote_noted)

pub children_optimizer-proper_list_node-requires : goal.children_optimizer-proper_list_node-requires
children_optimizer-proper_list_node-requires t c = search kept.fine_room

pub children_optimizer-returns-then-not-proper_list_node : goal.children_optimizer-returns-then-not-proper_list_node
children_optimizer-returns-then-not-proper_list_node t c = (search choosing.children_improper, search keeping.said, search logging.improper_noted)

pub children_optimizer-operands-requires : goal.children_optimizer-operands-requires
children_optimizer-operands-requires t c = (search kept.fine_down, (search rules, search rules, search rules))

pub children_optimizer-returns : goal.children_optimizer-returns
children_optimizer-returns t c = (search choosing.children_walked, search rules, search logging.walked_noted)

pub drive-returns-then-nest-ge65 : goal.drive-returns-then-nest-ge65
drive-returns-then-nest-ge65 t c = (search looping.drive_deep, search keeping.stops, search logging.too_deep_noted)

pub drive-lookup-requires : goal.drive-lookup-requires
drive-lookup-requires t c = (search rules, search rules, search rules, search rules)

pub drive-returns-in-Some : goal.drive-returns-in-Some
drive-returns-in-Some t c = (search keeping.hit_did, search keeping.hit_still, search logging.hit_noted)

pub drive-loop-s-init : goal.drive-loop-s-init
drive-loop-s-init t c = (search looping.loop_starts, search rules, refl, search sofar_starts)

pub drive-turn-s-requires : goal.drive-turn-s-requires
drive-turn-s-requires t c = (omega (arith, c.decreases), (search looping.loop_fine, search looping.loop_nest, search rules))

pub drive-shape_of-room-in-Stopped : goal.drive-shape_of-room-in-Stopped
drive-shape_of-room-in-Stopped t c = c.turn-s.auto.room ∙ looping.loop_long _ _ _ _ _ _ _ _ _ _ c.loop-s.invariant.0

pub drive-shape_of-row-in-Stopped : goal.drive-shape_of-row-in-Stopped
drive-shape_of-row-in-Stopped t c = c.turn-s.auto.row ∙ c.loop-s.invariant.2

pub drive-returns-in-Stopped : goal.drive-returns-in-Stopped
drive-returns-in-Stopped t c = (looping.loop_stop _ _ _ _ _ _ _ _ _ _ c.loop-s.invariant.0 _ _ c.turn-s.ensures.0 _ c.in-Stopped.is, search rules, logging.loop_stop_noted _ _ _ _ _ _ _ _ _ _ c.loop-s.invariant.0 _ _ _ c.loop-s.invariant.3 _ _ c.turn-s.ensures.0 _ c.turn-s.ensures.2 _ c.in-Stopped.is)

pub drive-loop-s-smaller : goal.drive-loop-s-smaller
drive-loop-s-smaller t c = looping.loop_less _ _ _ _ _ _ _ _ _ _ c.loop-s.invariant.0 _ _ c.turn-s.ensures.0 c.in-Changed.m (search rules)

pub drive-loop-s-preserved : goal.drive-loop-s-preserved
drive-loop-s-preserved t c = (looping.loop_changed _ _ _ _ _ _ _ _ _ _ c.loop-s.invariant.0 _ _ c.turn-s.ensures.0 c.in-Changed.m (search rules), search entries.valid_changed, c.turn-s.auto.row ∙ c.loop-s.invariant.2, logging.loop_changed_noted _ _ _ _ _ _ _ _ _ _ c.loop-s.invariant.0 _ _ _ c.loop-s.invariant.3 _ _ c.turn-s.ensures.0 _ c.turn-s.ensures.2 c.in-Changed.m (search rules))

pub drive-store-requires : goal.drive-store-requires
drive-store-requires t c = (keeping.turn_valid _ _ _ _ _ _ c.finish-s.ensures (search rules) c.turn-s.ensures.1, keeping.end_ended _ _ _ _ _ _ _ _ _ _ c.loop-s.invariant.0 _ _ c.turn-s.ensures.0 (search rules) _ c.finish-s.ensures)

pub drive-shape_of-room-in-Same : goal.drive-shape_of-room-in-Same
drive-shape_of-room-in-Same t c = c.turn-s.auto.room ∙ looping.loop_long _ _ _ _ _ _ _ _ _ _ c.loop-s.invariant.0

pub drive-shape_of-row-in-Same : goal.drive-shape_of-row-in-Same
drive-shape_of-row-in-Same t c = c.store.auto.row ∙ c.turn-s.auto.row ∙ c.loop-s.invariant.2

pub drive-returns-in-Same : goal.drive-returns-in-Same
drive-returns-in-Same t c = (keeping.end_stored _ _ _ _ _ _ _ _ _ _ c.loop-s.invariant.0 _ _ c.turn-s.ensures.0 (search rules) _ c.finish-s.ensures _ _ _ c.store.ensures.kept, keeping.stored_still _ _ _ _ _ c.store.ensures.kept, logging.loop_stored_noted _ _ _ _ _ _ _ _ _ _ c.loop-s.invariant.0 _ _ _ c.loop-s.invariant.3 _ _ c.turn-s.ensures.0 _ c.turn-s.ensures.2 (search rules) _ _ _ _ c.store.ensures)

pub operands-elements-init : goal.operands-elements-init
operands-elements-init t c = (search chunk.chunk_starts, search rules, refl, search sofar_starts)

pub operands-look_node-requires : goal.operands-look_node-requires
operands-look_node-requires t c = search chunk.chunk_room

pub operands-build-s-requires : goal.operands-build-s-requires
operands-build-s-requires t c = (search chunk.chunk_ready, search chunk.chunk_items)

pub operands-shape_of-room-in-Atom : goal.operands-shape_of-room-in-Atom
operands-shape_of-room-in-Atom t c = search chunk.chunk_len

pub operands-returns-in-Atom : goal.operands-returns-in-Atom
operands-returns-in-Atom t c = (search chunk.chunk_end, search keeping.built, search logging.end_noted)

pub operands-operands-s-requires : goal.operands-operands-s-requires
operands-operands-s-requires t c = (search chunk.chunk_down, (search chunk.chunk_fine, search chunk.chunk_nest, search rules))

pub operands-put_before-s-requires : goal.operands-put_before-s-requires
operands-put_before-s-requires t c = chunk.more_puttable _ _ _ _ _ _ _ _ _ _ _ _ _ _ c.elements.invariant.0 _ _ c.operands-s.ensures.0

pub operands-shape_of-room-then-k-ge48 : goal.operands-shape_of-room-then-k-ge48
operands-shape_of-room-then-k-ge48 t c = chunk.chunk_len_2 _ _ _ _ _ _ _ _ _ _ _ _ _ _ c.elements.invariant.0 c.operands-s.new.room c.put_before-s.new.room c.put_before-s.auto.room c.operands-s.auto.room

pub operands-shape_of-row-then-k-ge48 : goal.operands-shape_of-row-then-k-ge48
operands-shape_of-row-then-k-ge48 t c = c.operands-s.auto.row ∙ c.elements.invariant.2

pub operands-returns-then-k-ge48 : goal.operands-returns-then-k-ge48
operands-returns-then-k-ge48 t c = (chunk.more_put _ _ _ _ _ _ _ _ _ _ _ _ _ _ c.elements.invariant.0 _ _ c.operands-s.ensures.0 _ _ c.put_before-s.ensures, search keeping.put_still, logging.more_noted _ _ _ _ _ _ _ _ _ _ _ _ _ _ c.elements.invariant.0 _ _ _ c.elements.invariant.3 _ c.operands-s.ensures.2)

pub operands-look_node-requires-in-Pair : goal.operands-look_node-requires-in-Pair
operands-look_node-requires-in-Pair t c = search chunk.elem_room

pub operands-shape_of-room-then-nest-ge64 : goal.operands-shape_of-room-then-nest-ge64
operands-shape_of-room-then-nest-ge64 t c = search chunk.chunk_long

pub operands-shape_of-row-then-nest-ge64 : goal.operands-shape_of-row-then-nest-ge64
operands-shape_of-row-then-nest-ge64 t c = c.elements.invariant.2

pub operands-returns-then-nest-ge64 : goal.operands-returns-then-nest-ge64
operands-returns-then-nest-ge64 t c = (chunk.atom_deep _ _ _ _ _ _ _ _ _ _ _ _ _ _ c.elements.invariant.0 _ c.look_node.ensures c.in-Pair.h c.in-Pair.t (search rules) _ c.look_node-in-Pair.ensures (search rules) _ c.if-nest-ge64.true c.with-s.ensures, search keeping.stops, logging.deep_noted _ _ _ _ _ _ _ _ _ _ _ _ _ _ c.elements.invariant.0 _ _ _ c.elements.invariant.3 _ c.look_node.ensures c.in-Pair.h c.in-Pair.t (search rules) _ c.look_node-in-Pair.ensures (search rules) c.if-nest-ge64.true)

pub operands-overflow_cast-got : goal.operands-overflow_cast-got
operands-overflow_cast-got t c = search chunk.elem_small

pub operands-elements-smaller-in-Atom-look_node : goal.operands-elements-smaller-in-Atom-look_node
operands-elements-smaller-in-Atom-look_node t c = search chunk.elem_falls

pub operands-elements-preserved-in-Atom-look_node : goal.operands-elements-preserved-in-Atom-look_node
operands-elements-preserved-in-Atom-look_node t c = (chunk.atom_again _ _ _ _ _ _ _ _ _ _ _ _ _ _ c.elements.invariant.0 _ c.look_node.ensures c.in-Pair.h c.in-Pair.t (search rules) _ c.look_node-in-Pair.ensures (search rules) (search rules) (search rules), search rules, c.elements.invariant.2, logging.atom_noted _ _ _ _ _ _ _ _ _ _ _ _ _ _ c.elements.invariant.0 _ _ _ c.elements.invariant.3 _ c.look_node.ensures c.in-Pair.h c.in-Pair.t (search rules) _ c.look_node-in-Pair.ensures (search rules) (search rules))

pub operands-drive-s-requires : goal.operands-drive-s-requires
operands-drive-s-requires t c = (search chunk.chunk_deep, (chunk.elem_fine _ _ _ _ _ _ _ _ _ _ _ _ _ _ c.elements.invariant.0 _ c.look_node.ensures c.in-Pair.h c.in-Pair.t (search rules), search chunk.chunk_deeper, search rules))

pub operands-worked_into-requires : goal.operands-worked_into-requires
operands-worked_into-requires t c = chunk.elem_stands _ _ _ _ _ _ _ _ _ _ _ _ _ _ c.elements.invariant.0 _ c.look_node.ensures c.in-Pair.h c.in-Pair.t (search rules) _ _ c.drive-s.ensures.0

pub operands-shape_of-room-in-None : goal.operands-shape_of-room-in-None
operands-shape_of-room-in-None t c = c.drive-s.auto.room ∙ chunk.chunk_long _ _ _ _ _ _ _ _ _ _ _ _ _ _ c.elements.invariant.0

pub operands-shape_of-row-in-None : goal.operands-shape_of-row-in-None
operands-shape_of-row-in-None t c = c.drive-s.auto.row ∙ c.elements.invariant.2

pub operands-returns-in-None : goal.operands-returns-in-None
operands-returns-in-None t c = (chunk.elem_refused _ _ _ _ _ _ _ _ _ _ _ _ _ _ c.elements.invariant.0 _ c.look_node.ensures c.in-Pair.h c.in-Pair.t (search rules) _ _ c.drive-s.ensures.0 _ c.worked_into.ensures (search rules), search rules, logging.refused_noted _ _ _ _ _ _ _ _ _ _ _ _ _ _ c.elements.invariant.0 _ _ _ c.elements.invariant.3 _ c.look_node.ensures c.in-Pair.h c.in-Pair.t (search rules) _ _ c.drive-s.ensures.0 _ c.drive-s.ensures.2 _ c.worked_into.ensures (search rules))

pub operands-elements-smaller : goal.operands-elements-smaller
operands-elements-smaller t c = chunk.elem_falls _ _ _ _ _ _ _ _ _ _ _ _ _ _ c.elements.invariant.0 _ c.look_node.ensures c.in-Pair.h c.in-Pair.t (search rules)

pub operands-elements-preserved : goal.operands-elements-preserved
operands-elements-preserved t c = (chunk.elem_put _ _ _ _ _ _ _ _ _ _ _ _ _ _ c.elements.invariant.0 _ c.look_node.ensures c.in-Pair.h c.in-Pair.t (search rules) _ _ c.drive-s.ensures.0 _ c.worked_into.ensures _ (search rules) (search rules), keeping.element_valid _ _ _ _ _ _ _ _ c.in-Some.element c.worked_into.ensures (search rules) c.drive-s.ensures.1, c.drive-s.auto.row ∙ c.elements.invariant.2, logging.put_noted _ _ _ _ _ _ _ _ _ _ _ _ _ _ c.elements.invariant.0 _ _ _ c.elements.invariant.3 _ c.look_node.ensures c.in-Pair.h c.in-Pair.t (search rules) _ _ c.drive-s.ensures.0 _ c.drive-s.ensures.2 _ c.worked_into.ensures c.in-Some.element (search rules))

pub optimizer-var_change_optimizer_cons_eval-requires : goal.optimizer-var_change_optimizer_cons_eval-requires
optimizer-var_change_optimizer_cons_eval-requires t c = (omega arith, search rules)

pub optimizer-returns-then-rule-eq4 : goal.optimizer-returns-then-rule-eq4
optimizer-returns-then-rule-eq4 t c = (search choosing.choice_4, search rules, search logging.choice_noted)

pub optimizer-children_optimizer-requires : goal.optimizer-children_optimizer-requires
optimizer-children_optimizer-requires t c = (omega arith, search rules)

pub optimizer-returns-then-rule-eq5 : goal.optimizer-returns-then-rule-eq5
optimizer-returns-then-rule-eq5 t c = (search choosing.choice_5, search rules, search logging.choice_noted)

pub optimizer-simple-s-requires : goal.optimizer-simple-s-requires
optimizer-simple-s-requires t c = (search rules, search rules, search choosing.other_rule)

pub optimizer-returns : goal.optimizer-returns
optimizer-returns t c = (let d = choosing.choice_other _ _ _ _ _ _ c.requires.0 _ _ _ c.simple-s.ensures c.requires.2 c.requires.3 (search rules) (search rules) in (d, keeping.rule_still _ _ _ _ _ _ _ _ _ _ d c.requires.0 c.requires.4, search logging.simple_noted))

pub settle-drive-s-requires : goal.settle-drive-s-requires
settle-drive-s-requires t c = (omega arith, (search settling.settle_fine, omega arith, search keeping.valid_answered))

pub settle-keep_body-s-requires : goal.settle-keep_body-s-requires
settle-keep_body-s-requires t c = settling.constant_keepable _ _ _ _ _ _ c.requires.0 c.requires.1 _ _ c.seems_constant.ensures _ c.if-seems_constant.true _ _ c.drive-s.ensures.0

pub settle-shape_of-room-then-seems_constant : goal.settle-shape_of-room-then-seems_constant
settle-shape_of-room-then-seems_constant t c = c.keep_body-s.auto.room ∙ c.drive-s.auto.room ∙ c.seems_constant.auto.room

pub settle-returns-then-seems_constant : goal.settle-returns-then-seems_constant
settle-returns-then-seems_constant t c = (settling.constant_kept _ _ _ _ _ _ c.requires.0 c.requires.1 _ _ c.seems_constant.ensures _ c.if-seems_constant.true _ _ c.drive-s.ensures.0 _ _ _ c.keep_body-s.ensures, keeping.body_still _ _ _ _ _ _ _ _ c.drive-s.ensures.1 _ c.keep_body-s.ensures, logging.constant_noted _ _ _ _ _ _ c.requires.1 _ _ c.seems_constant.ensures _ _ _ _ c.if-seems_constant.true _ c.drive-s.ensures.2)

pub settle-proper_list_node-requires : goal.settle-proper_list_node-requires
settle-proper_list_node-requires t c = search settling.settle_room

pub settle-returns-then-not-proper_list_node : goal.settle-returns-then-not-proper_list_node
settle-returns-then-not-proper_list_node t c = (search settling.improper, search keeping.said_grown, search logging.dropped_noted)

pub settle-operands-s-requires : goal.settle-operands-s-requires
settle-operands-s-requires t c = (settling.settle_down _ _ _ _ _ _ c.requires.0 c.requires.1 _ _ c.seems_constant.ensures _ _ (search rules), (settling.settle_fine _ _ _ _ _ _ c.requires.0 c.requires.1 _ _ c.seems_constant.ensures, search rules, keeping.valid_answered _ _ _ _ _ _ _ _ _ c.seems_constant.ensures c.requires.3))

pub settle-keep_list-s-requires : goal.settle-keep_list-s-requires
settle-keep_list-s-requires t c = settling.list_keepable _ _ _ _ _ _ c.requires.0 c.requires.1 _ _ c.seems_constant.ensures _ c.if-seems_constant.false _ c.proper_list_node.ensures (ap not c.if-not-proper_list_node.false) _ _ c.operands-s.ensures.0

pub settle-shape_of-room : goal.settle-shape_of-room
settle-shape_of-room t c = c.keep_list-s.auto.room ∙ c.operands-s.auto.room ∙ c.seems_constant.auto.room

pub settle-returns : goal.settle-returns
settle-returns t c = (settling.list_settled _ _ _ _ _ _ c.requires.0 c.requires.1 _ _ c.seems_constant.ensures _ c.if-seems_constant.false _ c.proper_list_node.ensures (ap not c.if-not-proper_list_node.false) _ _ c.operands-s.ensures.0 _ _ _ c.keep_list-s.ensures, keeping.list_still _ _ _ _ _ _ _ _ c.operands-s.ensures.1 c.keep_list-s.ensures, logging.listed_noted _ _ _ _ _ _ c.requires.1 _ _ c.seems_constant.ensures _ _ _ _ c.if-seems_constant.false _ c.proper_list_node.ensures (ap not c.if-not-proper_list_node.false) _ c.operands-s.ensures.2)

pub turn-returns-in-Changed : goal.turn-returns-in-Changed
turn-returns-in-Changed t c = (search turning.at_atom, search keeping.atom_still, search logging.leaf_noted)

pub turn-returns-in-Stopped : goal.turn-returns-in-Stopped
turn-returns-in-Stopped t c = (search turning.passes_out, search entries.still_stopped, search logging.out_noted)

pub turn-loop-rule-init : goal.turn-loop-rule-init
turn-loop-rule-init t c = (search turning.turn_starts, search keeping.begun_valid, refl, search sofar_starts)

pub turn-optimizer-s-requires : goal.turn-optimizer-s-requires
turn-optimizer-s-requires t c = (omega (arith, c.decreases), (search turning.turn_fine, search turning.turn_nest, search turning.turn_least, search turning.turn_most, search rules))

pub turn-loop-rule-preserved : goal.turn-loop-rule-preserved
turn-loop-rule-preserved t c = (turning.rule_next _ _ _ _ _ _ _ _ _ c.loop-rule.invariant.0 _ _ c.optimizer-s.ensures.0 c.loop-rule-test.true (search rules), search entries.valid_same, c.optimizer-s.auto.row ∙ c.loop-rule.invariant.2, logging.next_noted _ _ _ _ _ _ _ _ _ c.loop-rule.invariant.0 _ _ _ c.loop-rule.invariant.3 _ _ c.optimizer-s.ensures.0 c.loop-rule-test.true _ c.optimizer-s.ensures.2 (search rules))

pub turn-note-requires : goal.turn-note-requires
turn-note-requires t c = logging.note_asks _ _ _ _ _ _ _ _ _ c.loop-rule.invariant.0 _ _ _ c.loop-rule.invariant.1 _ c.optimizer-s.auto.row c.loop-rule-test.true

pub turn-returns-in-Changed-last : goal.turn-returns-in-Changed-last
turn-returns-in-Changed-last t c = (turning.turn_whole _ _ _ _ _ _ c.requires.0 _ c.begin-s.ensures (search rules) _ _ (turning.rule_changed _ _ _ _ _ _ _ _ _ c.loop-rule.invariant.0 _ _ c.optimizer-s.ensures.0 c.loop-rule-test.true _ c.in-Changed-last.is), search logging.still_noted, logging.whole_noted _ _ _ _ _ _ c.begin-s.ensures _ (search rules) _ _ (logging.changed_noted _ _ _ _ _ _ _ _ _ c.loop-rule.invariant.0 _ _ _ c.loop-rule.invariant.3 _ _ c.optimizer-s.ensures.0 c.loop-rule-test.true _ c.optimizer-s.ensures.2 _ c.in-Changed-last.is _ c.note.ensures))

pub turn-returns-in-Stopped-last : goal.turn-returns-in-Stopped-last
turn-returns-in-Stopped-last t c = (turning.turn_whole _ _ _ _ _ _ c.requires.0 _ c.begin-s.ensures (search rules) _ _ (turning.rule_stopped _ _ _ _ _ _ _ _ _ c.loop-rule.invariant.0 _ _ c.optimizer-s.ensures.0 c.loop-rule-test.true _ c.in-Stopped-last.is), search rules, logging.whole_noted _ _ _ _ _ _ c.begin-s.ensures _ (search rules) _ _ (logging.stop_noted _ _ _ _ _ _ _ _ _ c.loop-rule.invariant.0 _ _ _ c.loop-rule.invariant.3 _ _ c.optimizer-s.ensures.0 c.loop-rule-test.true _ c.optimizer-s.ensures.2 _ c.in-Stopped-last.is))

pub turn-shape_of-room : goal.turn-shape_of-room
turn-shape_of-room t c = turning.turn_long _ _ _ _ _ _ _ _ _ c.loop-rule.invariant.0

pub turn-shape_of-row : goal.turn-shape_of-row
turn-shape_of-row t c = c.loop-rule.invariant.2

pub turn-returns : goal.turn-returns
turn-returns t c = (turning.turn_whole _ _ _ _ _ _ c.requires.0 _ c.begin-s.ensures (search rules) _ _ (turning.turn_ends _ _ _ _ _ _ _ _ _ c.loop-rule.invariant.0 c.loop-rule-test.false), search entries.valid_still, logging.whole_noted _ _ _ _ _ _ c.begin-s.ensures _ (search rules) _ _ (logging.last_noted _ _ _ _ _ _ _ _ _ c.loop-rule.invariant.0 _ _ _ c.loop-rule.invariant.3 c.loop-rule-test.false))

pub var_change_optimizer_cons_eval-returns-in-None : goal.var_change_optimizer_cons_eval-returns-in-None
var_change_optimizer_cons_eval-returns-in-None t c = (changing.change_none _ _ _ _ _ c.requires.0 _ _ c.applied_of.ensures _ _ c.with-s.ensures (search rules), search keeping.said_grown, changing.change_none_noted _ _ _ _ _ c.requires.0 _ _ c.applied_of.ensures _ _ _ (search rules))

pub var_change_optimizer_cons_eval-sub_args-requires : goal.var_change_optimizer_cons_eval-sub_args-requires
var_change_optimizer_cons_eval-sub_args-requires t c = changing.change_asks _ _ _ _ _ c.requires.0 _ _ c.applied_of.ensures _ (search rules)

pub var_change_optimizer_cons_eval-returns-in-Err : goal.var_change_optimizer_cons_eval-returns-in-Err
var_change_optimizer_cons_eval-returns-in-Err t c = (changing.change_over _ _ _ _ _ c.requires.0 _ _ c.applied_of.ensures _ (search rules) _ _ c.sub_args.ensures _ _ _ c.with-s-in-Err.ensures (search rules), search keeping.stops, changing.change_over_noted _ _ _ _ _ c.requires.0 _ _ c.applied_of.ensures _ (search rules) _ _ c.sub_args.ensures _ c.in-Err.e _ _ (search rules))

pub var_change_optimizer_cons_eval-settle-requires : goal.var_change_optimizer_cons_eval-settle-requires
var_change_optimizer_cons_eval-settle-requires t c = (omega arith, let y = changing.change_valid _ _ _ _ _ c.requires.0 _ _ c.applied_of.ensures _ (search rules) _ _ c.sub_args.ensures c.in-Ok.x (search rules) _ _ c.requires.2 in let z = changing.change_fine _ _ _ _ _ c.requires.0 _ _ c.applied_of.ensures _ (search rules) _ _ c.sub_args.ensures c.in-Ok.x (search rules) in (z.0, z.1, c.requires.1, y))

pub var_change_optimizer_cons_eval-shape_of-room-in-Ok : goal.var_change_optimizer_cons_eval-shape_of-room-in-Ok
var_change_optimizer_cons_eval-shape_of-room-in-Ok t c = c.settle.auto.room ∙ c.sub_args.auto.room ∙ c.applied_of.auto.room

pub var_change_optimizer_cons_eval-returns-in-Ok : goal.var_change_optimizer_cons_eval-returns-in-Ok
var_change_optimizer_cons_eval-returns-in-Ok t c = (changing.change_settled _ _ _ _ _ c.requires.0 _ _ c.applied_of.ensures c.in-Some.call c.in-Some.is _ _ c.sub_args.ensures c.in-Ok.x (search rules) _ _ _ c.settle.ensures.0, search rules, changing.change_settled_noted _ _ _ _ _ c.requires.0 _ _ c.applied_of.ensures c.in-Some.call c.in-Some.is _ _ c.sub_args.ensures c.in-Ok.x (search rules) _ _ _ _ c.settle.ensures.2)
