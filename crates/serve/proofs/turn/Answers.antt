-- turn: an answer for each need; what carries weight stands in the laws.
use Rattle.lines.proofs.Waiting as waiting
use Rattle.serve.proofs.Replies as replies
use Rattle.serve.proofs.turn.Goals as goal

pub returns-in-Form : goal.returns-in-Form
returns-in-Form c = search replies.turned

pub returns-in-Bad : goal.returns-in-Bad
returns-in-Bad c = search waiting.turned_bad

pub returns-in-End : goal.returns-in-End
returns-in-End c = search waiting.turned_end
