-- quoted_value: an answer for each need; what carries weight stands in the laws.
use Rattle.store.proofs.Ready.{nil_ready}
use Rattle.rules.proofs.Constant as constant
use borrow.Author.Rules.{rules}
use Rattle.rules.proofs.quoted_value.Goals as goal

pub eval_node-requires : goal.eval_node-requires
eval_node-requires c = (search rules, search nil_ready)

pub quote_node-requires : goal.quote_node-requires
quote_node-requires c = search constant.value_ready

pub returns-in-Err : goal.returns-in-Err
returns-in-Err c = search constant.value_stops

pub returns-in-Ok : goal.returns-in-Ok
returns-in-Ok c = search constant.value_quoted
