-- digit: an answer for each need; what carries weight stands in the laws.
use borrow.Author.Rules.{rules}
use Rattle.lines.proofs.Reading as reading
use Rattle.lines.proofs.read.digit.Goals as goal

pub returns-in-48-to-57-clause-value : goal.returns-in-48-to-57-clause-value
returns-in-48-to-57-clause-value c = reading.number _ (search rules) (search rules)

pub returns-in-97-to-102-clause-value : goal.returns-in-97-to-102-clause-value
returns-in-97-to-102-clause-value c = reading.letter _ (search rules) (search rules)

pub returns-in_default-clause-value : goal.returns-in_default-clause-value
returns-in_default-clause-value c = reading.below _ (search rules)

pub returns-in_default-2-clause-value : goal.returns-in_default-2-clause-value
returns-in_default-2-clause-value c = reading.between _ (search rules) (search rules)

pub returns-in_default-3-clause-value : goal.returns-in_default-3-clause-value
returns-in_default-3-clause-value c = reading.above _ (search rules)
