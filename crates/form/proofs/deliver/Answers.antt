-- deliver: by what deliver_node says.
use Rattle.form.proofs.Bytes as laws
use Rattle.form.proofs.deliver.Goals as goal

pub returns-in-None : goal.returns-in-None
returns-in-None c = search laws.deliver_short

pub returns-in-Some : goal.returns-in-Some
returns-in-Some c = search laws.deliver_done
