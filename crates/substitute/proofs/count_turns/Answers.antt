-- count_turns: an answer for each need; what carries weight stands in the laws.
use Rattle.substitute.proofs.Turns as turns
use Rattle.substitute.proofs.count_turns.Goals as goal

pub atom_bytes-requires : goal.atom_bytes-requires
atom_bytes-requires c = search turns.named_room

pub sub_turn_count-requires : goal.sub_turn_count-requires
sub_turn_count-requires c = search turns.named_short

pub returns : goal.returns
returns c = search turns.count_read
