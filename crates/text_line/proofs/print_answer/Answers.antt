-- print_answer: the text, and then the numbers.
use Rattle.text_line.proofs.Laws as laws
use Rattle.text_line.proofs.print_answer.Goals as goal

pub returns : goal.returns
returns c = search laws.answer_printed
