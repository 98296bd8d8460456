-- quoted_from: an answer for each need; what carries weight stands in the laws.
use Rattle.text_reader.proofs.ScanLaws as laws
use Rattle.text_reader.proofs.scan.quoted_from.Goals as goal

pub returns-in-Ok : goal.returns-in-Ok
returns-in-Ok c = search laws.here_quoted

pub returns-in-Err : goal.returns-in-Err
returns-in-Err c = search laws.here_wrong
