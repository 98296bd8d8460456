-- stands_at: one line a need; the laws are in Following.
use Rattle.form.proofs.Following as following
use Rattle.form.proofs.stands_at.Goals as goal

pub returns : goal.returns
returns c = search following.stands_part
