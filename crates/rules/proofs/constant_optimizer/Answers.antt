-- constant_optimizer: an answer for each need; what carries weight stands in the laws.
use Rattle.store.proofs.Ready.{room}
use Rattle.rules.proofs.Constant as constant
use Rattle.rules.proofs.constant_optimizer.Goals as goal

pub is_quote_node-requires : goal.is_quote_node-requires
is_quote_node-requires c = search room

pub returns-then-is_quote_node : goal.returns-then-is_quote_node
returns-then-is_quote_node c = search constant.constant_quote

pub is_nil_node-requires : goal.is_nil_node-requires
is_nil_node-requires c = search room

pub returns-then-is_nil_node : goal.returns-then-is_nil_node
returns-then-is_nil_node c = search constant.constant_nil

pub quoted_value-requires : goal.quoted_value-requires
quoted_value-requires c = (search constant.constant_ready, search constant.constant_unquoted)

pub returns-then-seems_constant : goal.returns-then-seems_constant
returns-then-seems_constant c = search constant.constant_yes

pub returns-else-seems_constant : goal.returns-else-seems_constant
returns-else-seems_constant c = search constant.constant_no
