-- atom_node: an answer for each need; what carries weight stands in the laws.
use Rattle.store.proofs.Charging as charging
use Rattle.std.proofs.Common.{◌≡◌, length, rules}
use Rattle.store.proofs.atom_node.Goals as goal

pub returns-then-is_empty : goal.returns-then-is_empty
returns-then-is_empty c = let e : length c.args.b.now ≡ 0 = search rules in search charging.nil_made

pub append_atom-requires : goal.append_atom-requires
append_atom-requires c = (search charging.held_charged, search charging.atom_paid, search rules)

pub returns : goal.returns
returns c = let e : length c.args.b.now ≡ 0 → ⊥ = search rules in search charging.atom_bought

pub returns-in_err-c : goal.returns-in_err-c
returns-in_err-c c = let e : length c.args.b.now ≡ 0 → ⊥ = search rules in search (rules, charging.atom_over)
