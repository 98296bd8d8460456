-- fault_of_text: the limit, then how the machine ends. Assumes nothing.
use Rattle.text_reader.proofs.ConvertLaws as laws
use Rattle.text_reader.proofs.convert.fault_of_text.Goals as goal

pub returns-then-text-gt-TEXT : goal.returns-then-text-gt-TEXT
returns-then-text-gt-TEXT c = search laws.too_long_to_see

pub next_place-requires : goal.next_place-requires
next_place-requires c = search laws.stops_within

pub returns-in-Ok : goal.returns-in-Ok
returns-in-Ok c = search laws.whole_parses

pub returns-in-Err : goal.returns-in-Err
returns-in-Err c = search laws.stops_there
