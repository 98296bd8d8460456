-- deliver_text: an answer for each need; what carries weight stands in the laws.
use Rattle.text_writer.proofs.Pairs as laws
use borrow.Author.Rules.{rules}
use Rattle.text_writer.proofs.deliver_text.Goals as goal

pub write_text-requires : goal.write_text-requires
write_text-requires c = (search rules, search (laws.all_fits, c.in_ok-length_text.was))

pub returns-in_err-length_text : goal.returns-in_err-length_text
returns-in_err-length_text c = rw c.from_residual.ensures (search (laws.none_written, c.in_err-length_text.was))

pub returns : goal.returns
returns c = search (laws.all_written, c.in_ok-length_text.was)
