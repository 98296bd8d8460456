use Rattle.form.proofs.Writer as laws
use Rattle.form.proofs.atom_length.Goals as goal

pub returns-then-b-lt64 : goal.returns-then-b-lt64
returns-then-b-lt64 c = search laws.short_length

pub returns-else-b-lt64 : goal.returns-else-b-lt64
returns-else-b-lt64 c = search laws.long_length

pub returns-else-needs_prefix : goal.returns-else-needs_prefix
returns-else-needs_prefix c = search laws.alone_length
