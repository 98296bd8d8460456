-- answer: by the program.
use Rattle.serve.proofs.Replies as replies
use Rattle.serve.proofs.answer.Goals as goal

pub returns-in-Optimise : goal.returns-in-Optimise
returns-in-Optimise c = search replies.optimised

pub returns-in-Evaluate : goal.returns-in-Evaluate
returns-in-Evaluate c = search replies.evaluated

pub returns-in-Match : goal.returns-in-Match
returns-in-Match c = search replies.matched

pub returns-in-Rule : goal.returns-in-Rule
returns-in-Rule c = search replies.ruled

pub returns-in-Read : goal.returns-in-Read
returns-in-Read c = search replies.written

pub returns-in-ReadText : goal.returns-in-ReadText
returns-in-ReadText c = search replies.text_read

pub returns-in-WriteText : goal.returns-in-WriteText
returns-in-WriteText c = search replies.text_written

pub returns-in-OptimiseText : goal.returns-in-OptimiseText
returns-in-OptimiseText c = search replies.text_optimised

pub returns-in-EvaluateText : goal.returns-in-EvaluateText
returns-in-EvaluateText c = search replies.text_evaluated

pub returns-in-TextFault : goal.returns-in-TextFault
returns-in-TextFault c = search replies.text_faulted
