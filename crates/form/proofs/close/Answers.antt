-- close: pair by pair, the last left part first. Assumes nothing.
use Rattle.form.proofs.Reader as laws
use Rattle.form.proofs.close.Goals as goal

pub returns-then-v : goal.returns-then-v
returns-then-v c = search laws.close_open

pub returns-in-Err : goal.returns-in-Err
returns-in-Err c = search laws.close_over

pub loop-i-preserved : goal.loop-i-preserved
loop-i-preserved c = search laws.close_turn

pub returns : goal.returns
returns c = search laws.close_all
