-- one_at: an answer for each need; what carries weight stands in the laws.
use Rattle.text_writer.proofs.Heads as laws
use Rattle.text_writer.proofs.one_at.Goals as goal

pub returns-in-Pair : goal.returns-in-Pair
returns-in-Pair c = search laws.one_pair

pub returns-in-Atom : goal.returns-in-Atom
returns-in-Atom c = search laws.one_atom
