-- lay_pair: an answer for each need; what carries weight stands in the laws.
use Rattle.store.proofs.Charging as charging
use Rattle.store.proofs.lay_pair.Goals as goal

pub append_pair-requires : goal.append_pair-requires
append_pair-requires c = (search charging.free_ready, search charging.free_ready, search charging.free_paid)

pub returns : goal.returns
returns c = search charging.laid
