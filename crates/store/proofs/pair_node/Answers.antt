-- pair_node: an answer for each need; what carries weight stands in the laws.
use Rattle.store.proofs.Charging as charging
use Rattle.std.proofs.Common.{rules}
use Rattle.store.proofs.pair_node.Goals as goal

pub append_pair-requires : goal.append_pair-requires
append_pair-requires c = (search charging.ready_charged, search charging.ready_charged, search charging.pair_paid)

pub returns : goal.returns
returns c = search charging.bought

pub returns-in_err-c : goal.returns-in_err-c
returns-in_err-c c = search (rules, charging.over)
