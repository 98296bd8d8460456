-- turn_at: an answer for each need; what carries weight stands in the laws.
use Rattle.substitute.proofs.Turns as turns
use Rattle.substitute.proofs.turn_at.Goals as goal

pub turn-requires : goal.turn-requires
turn-requires c = search turns.turn_within

pub returns : goal.returns
returns c = search turns.turn_read
