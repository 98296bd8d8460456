use Rattle.form.proofs.Writer as laws
use Rattle.form.proofs.put_long.Goals as goal

pub returns : goal.returns
returns c = search laws.long_wrote
