-- zero_room: an answer for each need; what carries weight stands in the laws.
use Rattle.std.proofs.Common.{◌∙◌, rules}
use Rattle.store.proofs.Zeros as zeros
use Rattle.store.proofs.zero_room.Goals as goal

pub returns : goal.returns
returns c = c.fill.ensures.after (search rules) ∙ zeros.zeros_are c.args.room.now
