-- append_pair: an answer for each need; what carries weight stands in the laws.
use Rattle.store.proofs.Append as append
use Rattle.std.proofs.Common.{rules}
use Rattle.store.proofs.append_pair.Goals as goal

pub put_pair-requires : goal.put_pair-requires
put_pair-requires c = (search (append.record_room, rules), search rules, search rules)

pub returns : goal.returns
returns c = search append.put_pair
