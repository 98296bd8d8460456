-- read_two: the cut, then both.
use Rattle.form.proofs.Both as laws
use Rattle.form.proofs.read_two.Goals as goal

pub returns : goal.returns
returns c = search laws.cut_two
