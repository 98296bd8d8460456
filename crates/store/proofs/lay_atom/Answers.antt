-- lay_atom: an answer for each need; what carries weight stands in the laws.
use Rattle.store.proofs.Charging as charging
use Rattle.std.proofs.Common.{rules}
use Rattle.store.proofs.lay_atom.Goals as goal

pub append_atom-requires : goal.append_atom-requires
append_atom-requires c = (search charging.free_held, search charging.free_paid_held, search rules)

pub returns : goal.returns
returns c = search charging.laid
