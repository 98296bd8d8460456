-- form_atom_node: an answer for each need; what carries weight stands in the laws.
use Rattle.store.proofs.Charging as charging
use Rattle.std.proofs.Common.{rules}
use Rattle.store.proofs.form_atom_node.Goals as goal

pub returns-then-len-eq0 : goal.returns-then-len-eq0
returns-then-len-eq0 c = search charging.form_nil

pub append_form_atom-requires : goal.append_form_atom-requires
append_form_atom-requires c = (search charging.held_charged, search charging.form_paid, search rules, search rules)

pub returns : goal.returns
returns c = search charging.form_bought

pub returns-in_err-c : goal.returns-in_err-c
returns-in_err-c c = search (rules, charging.form_over)
