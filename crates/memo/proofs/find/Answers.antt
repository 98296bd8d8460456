-- find: one line a need; the laws are in Entries.
use borrow.Author.Rules.{rules}
use Rattle.std.proofs.Common.{sym}
use Rattle.store.proofs.Ready.{room}
use Rattle.memo.proofs.Entries as entries
use Rattle.memo.proofs.find.Goals as goal
use Rattle.memo.proofs.find.Goals.{then-is_candidate+else-v, else-is_candidate}

pub alike-v-requires : goal.alike-v-requires
alike-v-requires c = (search entries.entry_room, search room)

pub returns-then-v : goal.returns-then-v
returns-then-v c = (search rules, sym (search entries.found))

pub loop-i-preserved : goal.loop-i-preserved
loop-i-preserved c = elim c.if-is_candidate.branch [
  | then-is_candidate+else-v w ↦ rw w.left-is (entries.further _ _ _ _ _ _ _ _ c.loop-i.invariant (search rules) _ c.entry_at-e.ensures _ c.print_node-key.ensures _ c.is_candidate.ensures w.if-is_candidate.true _ w.from.ensures _ w.alike-v.ensures w.if-v.false)
  | else-is_candidate w ↦ rw w.left-is (search entries.passed)
]

pub returns : goal.returns
returns c = sym (search entries.found_none)
