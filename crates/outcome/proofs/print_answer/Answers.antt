-- print_answer: the tree, and then the numbers.
use Rattle.outcome.proofs.Laws as laws
use Rattle.outcome.proofs.print_answer.Goals as goal

pub returns : goal.returns
returns c = search laws.answer_printed
