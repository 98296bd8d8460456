-- write_text: an answer for each need; what carries weight stands in the laws.
use Rattle.text_writer.proofs.+write_text.Given as goal

abbrev pub decreases-write_text : goal.decreases-write_text
decreases-write_text l = l.n
