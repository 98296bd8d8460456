-- work: both forms are read, and then matched.
use Rattle.matcher.proofs.Forms as laws
use Rattle.matcher.proofs.work.Goals as goal

pub matched-requires : goal.matched-requires
matched-requires c = (search laws.pattern_ready, search laws.expression_ready)

pub returns-in-Err : goal.returns-in-Err
returns-in-Err c = search laws.both_refused

pub returns-in-Ok : goal.returns-in-Ok
returns-in-Ok c = search laws.both_matched
