-- take_tokens: token by token, until the text ends or does not parse. Assumes nothing.
use Rattle.text_reader.proofs.ConvertLaws as laws
use borrow.Author.Rules.{rules}
use Rattle.text_reader.proofs.convert.take_tokens.Goals as goal

pub tokens-init : goal.tokens-init
tokens-init c = (search laws.going_starts, (search rules, (search rules, search rules)))

pub tokens-smaller : goal.tokens-smaller
tokens-smaller c = search laws.going_less

pub tokens-preserved : goal.tokens-preserved
tokens-preserved c = (search laws.going_on, (search rules, (search rules, search rules)))

pub returns-in-Done : goal.returns-in-Done
returns-in-Done c = search laws.going_done

pub returns-in-Fails : goal.returns-in-Fails
returns-in-Fails c = search laws.going_fails
