-- skip: what stands before i only separates. Assumes nothing.
use Rattle.text_reader.proofs.ScanLaws as laws
use Rattle.text_reader.proofs.scan.skip.Goals as goal

pub loop-i-preserved : goal.loop-i-preserved
loop-i-preserved c = search laws.skip_turn
