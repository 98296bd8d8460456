use Rattle.form.proofs.Reader as laws
use Rattle.form.proofs.read_atom.Goals as goal

pub returns-then-p-lt128 : goal.returns-then-p-lt128
returns-then-p-lt128 c = search laws.atom_alone

pub returns-then-p-eq128 : goal.returns-then-p-eq128
returns-then-p-eq128 c = search laws.atom_nil

pub returns : goal.returns
returns c = search laws.atom_long
