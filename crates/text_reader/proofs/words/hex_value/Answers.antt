-- hex_value: an answer for each need; what carries weight stands in the laws.
use Rattle.text_reader.proofs.HexLaws as laws
use Rattle.text_reader.proofs.words.hex_value.Goals as goal

pub returns-in-48-to-57 : goal.returns-in-48-to-57
returns-in-48-to-57 c = search laws.digit_number

pub returns-in-65-to-70 : goal.returns-in-65-to-70
returns-in-65-to-70 c = search laws.digit_upper

pub returns-in-97-to-102 : goal.returns-in-97-to-102
returns-in-97-to-102 c = search laws.digit_lower

pub returns-in_default : goal.returns-in_default
returns-in_default c = search (laws.digit_before, laws.digit_between, laws.digit_after, laws.digit_beyond)

pub returns-in_default-2 : goal.returns-in_default-2
returns-in_default-2 c = search (laws.digit_before, laws.digit_between, laws.digit_after, laws.digit_beyond)

pub returns-in_default-3 : goal.returns-in_default-3
returns-in_default-3 c = search (laws.digit_before, laws.digit_between, laws.digit_after, laws.digit_beyond)

pub returns-in_default-4 : goal.returns-in_default-4
returns-in_default-4 c = search (laws.digit_before, laws.digit_between, laws.digit_after, laws.digit_beyond)
