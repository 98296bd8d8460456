use Rattle.form.proofs.Form as laws
use Rattle.form.proofs.read_whole.Goals as goal

pub returns : goal.returns
returns c = search laws.whole
