-- store: one line a need; the laws are in Storing.
use Rattle.memo.proofs.Storing as storing
use Rattle.memo.proofs.store.Goals as goal

pub returns-then-row-st : goal.returns-then-row-st
returns-then-row-st c = search storing.row_full

pub returns-then-st-b : goal.returns-then-st-b
returns-then-st-b c = search storing.no_pass

pub returns-then-st-ge65536 : goal.returns-then-st-ge65536
returns-then-st-ge65536 c = search storing.none_left

pub entry_of-requires : goal.entry_of-requires
entry_of-requires c = search storing.store_small

pub returns : goal.returns
returns c = search storing.one_more
