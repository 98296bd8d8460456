-- form_of_text: the limit, then how the machine ends. Assumes nothing.
use Rattle.text_reader.proofs.ConvertLaws as laws
use Rattle.text_reader.proofs.convert.form_of_text.Goals as goal

pub returns-then-text-gt-TEXT : goal.returns-then-text-gt-TEXT
returns-then-text-gt-TEXT c = search laws.too_long

pub returns-in-Ok-Some : goal.returns-in-Ok-Some
returns-in-Ok-Some c = search laws.whole_converted

pub returns-in-Err : goal.returns-in-Err
returns-in-Err c = search laws.stops_converted

pub returns-in-Ok-None : goal.returns-in-Ok-None
returns-in-Ok-None c = search laws.long_converted
