-- answer: by what came; the line stands alone.
use Rattle.optimise.proofs.Laws as laws
use Rattle.optimise.proofs.answer.Goals as goal

pub returns-in-Form : goal.returns-in-Form
returns-in-Form c = search (laws.only_form, c.requires.0, c.requires.1)

pub returns-in-Bad : goal.returns-in-Bad
returns-in-Bad c = search (laws.only_bad, c.requires.0, c.requires.1)

pub returns-in-End : goal.returns-in-End
returns-in-End c = search (laws.only_end, c.requires.0, c.requires.1)
