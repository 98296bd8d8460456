-- word_end: the word goes on at i. Assumes nothing.
use Rattle.text_reader.proofs.ScanLaws as laws
use Rattle.text_reader.proofs.scan.word_end.Goals as goal

pub returns-then-not-is_plain : goal.returns-then-not-is_plain
returns-then-not-is_plain c = search laws.word_found

pub loop-i-preserved : goal.loop-i-preserved
loop-i-preserved c = search laws.word_turn

pub returns : goal.returns
returns c = search laws.word_all
