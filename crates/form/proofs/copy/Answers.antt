-- copy: an answer for each need. Assumes nothing.
use Rattle.form.proofs.Lend as laws
use Rattle.form.proofs.copy.Goals as goal

pub loop-i-init : goal.loop-i-init
loop-i-init c = search laws.copy_starts

pub loop-i-preserved : goal.loop-i-preserved
loop-i-preserved c = search laws.copy_turn

pub shape_of-dst : goal.shape_of-dst
shape_of-dst c = search laws.copy_long

pub returns : goal.returns
returns c = search laws.copy_ends
