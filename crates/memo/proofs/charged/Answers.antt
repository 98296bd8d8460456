-- charged: one line a need; the laws are in Hits.
use Rattle.memo.proofs.Hits as hits
use Rattle.memo.proofs.charged.Goals as goal
use Rattle.memo.proofs.charged.Goals.{then-units-gt32768-via-then-units-gt32768, then-units-gt32768-via-else-units-gt32768+then-passes-gt65536}

pub returns-then-units-gt32768 : goal.returns-then-units-gt32768
returns-then-units-gt32768 c = elim c.then-units-gt32768.branch [
  | then-units-gt32768-via-then-units-gt32768 w ↦ search hits.no_units
  | then-units-gt32768-via-else-units-gt32768+then-passes-gt65536 w ↦ search hits.no_passes
]

pub returns-then-e : goal.returns-then-e
returns-then-e c = search hits.hit_same

pub returns-else-e : goal.returns-else-e
returns-else-e c = search hits.hit_changed
