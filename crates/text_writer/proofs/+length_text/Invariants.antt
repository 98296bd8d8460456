-- length_text: an answer for each need; what carries weight stands in the laws.
use Rattle.text_writer.proofs.+length_text.Given as goal

abbrev pub decreases-length_text : goal.decreases-length_text
decreases-length_text l = l.n
