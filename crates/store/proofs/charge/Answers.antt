-- charge: an answer for each need; what carries weight stands in the laws.
use Rattle.store.proofs.Charging as charging
use Rattle.store.proofs.charge.Goals as goal

pub returns-then-ch-cost : goal.returns-then-ch-cost
returns-then-ch-cost c = search charging.charge_stops

pub returns : goal.returns
returns c = search charging.charge_goes
