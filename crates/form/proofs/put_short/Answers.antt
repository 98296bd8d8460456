use Rattle.form.proofs.Writer as laws
use Rattle.form.proofs.put_short.Goals as goal

pub returns : goal.returns
returns c = search laws.short_wrote
