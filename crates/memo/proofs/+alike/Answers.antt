-- alike: fewer left parts within left parts at each call. One line a need; the laws are in Comparing.
use borrow.Author.Rules.{rules}
use Rattle.memo.proofs.Comparing as comparing
use Rattle.memo.proofs.+alike.Goals as goal

pub returns-then-a-b : goal.returns-then-a-b
returns-then-a-b t c = search comparing.one_node

pub returns-then-left-eq0 : goal.returns-then-left-eq0
returns-then-left-eq0 t c = search comparing.no_looks

pub returns-in-Told : goal.returns-in-Told
returns-in-Told t c = search comparing.told

pub returns-then-deep-eq0 : goal.returns-then-deep-eq0
returns-then-deep-eq0 t c = search comparing.too_deep

pub alike-v-requires : goal.alike-v-requires
alike-v-requires t c = (search rules, (search comparing.left_one, search comparing.left_other))

pub returns-then-not-v : goal.returns-then-not-v
returns-then-not-v t c = search comparing.lefts_differ

pub loop-a-smaller : goal.loop-a-smaller
loop-a-smaller t c = search comparing.rights_fall

pub loop-a-preserved : goal.loop-a-preserved
loop-a-preserved t c = search comparing.goes_on
