-- both_got: an answer for each need; what carries weight stands in the laws.
use Rattle.rules.proofs.Simple as simple
use Rattle.rules.proofs.both_got.Goals as goal

pub returns : goal.returns
returns c = search (simple.call_of, c.in_ok-s.was, c.in_ok-a.was)
