-- word_bytes: a name, hex, or a number. Assumes nothing.
use Rattle.text_reader.proofs.WordLaws as laws
use Rattle.text_reader.proofs.words.word_bytes.Goals as goal

pub returns-in-Some : goal.returns-in-Some
returns-in-Some c = search laws.word_name

pub returns-then-begins_hex : goal.returns-then-begins_hex
returns-then-begins_hex c = search laws.word_hex

pub returns : goal.returns
returns c = search laws.word_number
