-- token_here: by the kind of the first byte. Assumes nothing.
use Rattle.text_reader.proofs.ScanLaws as laws
use Rattle.text_reader.proofs.scan.token_here.Goals as goal

pub word_from-requires : goal.word_from-requires
word_from-requires c = search laws.here_word

pub returns-in-Opens : goal.returns-in-Opens
returns-in-Opens c = search laws.here_opens

pub returns-in-Closes : goal.returns-in-Closes
returns-in-Closes c = search laws.here_closes

pub returns-in-Blank : goal.returns-in-Blank
returns-in-Blank c = search laws.here_blank
