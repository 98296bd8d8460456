-- print_ok: the word, and then the text.
use Rattle.text_line.proofs.Laws as laws
use Rattle.text_line.proofs.print_ok.Goals as goal

pub returns : goal.returns
returns c = search laws.ok_printed
