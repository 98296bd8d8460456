-- next_place: by the token. Assumes nothing.
use Rattle.text_reader.proofs.ScanLaws as laws
use Rattle.text_reader.proofs.scan.next_place.Goals as goal

pub overflow_sub-result-in-Open : goal.overflow_sub-result-in-Open
overflow_sub-result-in-Open c = search laws.sign_some

pub overflow_sub-result : goal.overflow_sub-result
overflow_sub-result c = search laws.quoted_some

pub returns-in-Open : goal.returns-in-Open
returns-in-Open c = search laws.place_sign

pub returns-in-Word : goal.returns-in-Word
returns-in-Word c = search laws.place_word

pub returns-in-Quoted : goal.returns-in-Quoted
returns-in-Quoted c = search laws.place_quoted

pub returns-in-Wrong : goal.returns-in-Wrong
returns-in-Wrong c = search laws.place_wrong

pub returns-in-End : goal.returns-in-End
returns-in-End c = search laws.place_end
