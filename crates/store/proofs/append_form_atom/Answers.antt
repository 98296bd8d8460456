-- append_form_atom: an answer for each need; what carries weight stands in the laws.
use Rattle.store.proofs.Append as append
use Rattle.store.proofs.Atoms as atoms
use Rattle.std.proofs.Common.{rules}
use Rattle.store.proofs.append_form_atom.Goals as goal

pub put_atom-requires : goal.put_atom-requires
put_atom-requires c = (search (append.record_room, rules), search rules, search rules)

pub returns : goal.returns
returns c = search atoms.put_form
