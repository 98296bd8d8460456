-- emit_atom: its length where it needs one, then its bytes. Assumes nothing.
use Rattle.text_reader.proofs.EmitLaws as laws
use Rattle.text_reader.proofs.emit.emit_atom.Goals as goal

pub returns-then-b-ge-FORM : goal.returns-then-b-ge-FORM
returns-then-b-ge-FORM c = search laws.atom_over

pub returns-then-needs_prefix : goal.returns-then-needs_prefix
returns-then-needs_prefix c = search laws.atom_after

pub returns-else-needs_prefix : goal.returns-else-needs_prefix
returns-else-needs_prefix c = search laws.atom_alone
