-- answer: by what the work said.
use Rattle.matcher.proofs.Whole as laws
use Rattle.std.proofs.lemmas.Result.{err_from_is_err_and}
use Rattle.matcher.proofs.answer.Goals as goal

pub deliver-requires : goal.deliver-requires
deliver-requires c = search (laws.bound_here, c.in_ok-ks.was)

pub returns-in_err-ks : goal.returns-in_err-ks
returns-in_err-ks c = let p = err_from_is_err_and c.from_residual.result c.from_residual.ensures.1 in rw (p.1, p.2) (search (laws.answer_stop, c.in_err-ks.was))

pub returns-in-Bound : goal.returns-in-Bound
returns-in-Bound c = search (laws.answer_bound, c.in_ok-ks.was)

pub returns-in-NoMatch : goal.returns-in-NoMatch
returns-in-NoMatch c = search (laws.answer_failed, c.in_ok-ks.was)

pub returns-in-TooManyNames : goal.returns-in-TooManyNames
returns-in-TooManyNames c = search (laws.answer_many, c.in_ok-ks.was)
