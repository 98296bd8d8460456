-- print_bytes: an answer for each need; what carries weight stands in the laws.
use Rattle.std.proofs.Common.{◌≡◌, ◌∙◌, rules}
use Rattle.std.specs.List.{fold}
use Rattle.store.specs.Nodes.{mixed}
use Rattle.store.proofs.Laws as laws
use Rattle.store.proofs.print_bytes.Goals as goal

pub returns : goal.returns
returns c = let e : c.fold.result ≡ fold mixed 7 c.args.b.now = search rules in e ∙ laws.print_fold 7 c.args.b.now
