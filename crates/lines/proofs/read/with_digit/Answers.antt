-- with_digit: an answer for each need; what carries weight stands in the laws.
use Rattle.lines.proofs.Reading as reading
use Rattle.lines.proofs.read.with_digit.Goals as goal

pub returns-in_default : goal.returns-in_default
returns-in_default c = search reading.no_digit

pub returns-in_default-half : goal.returns-in_default-half
returns-in_default-half c = search reading.first_digit

pub returns : goal.returns
returns c = search reading.second_digit
