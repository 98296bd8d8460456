-- next_token: separators are skipped. Assumes nothing.
use Rattle.text_reader.proofs.ScanLaws as laws
use Rattle.text_reader.proofs.scan.next_token.Goals as goal

pub returns-then-i-text : goal.returns-then-i-text
returns-then-i-text c = search laws.then_token

pub returns-else-i-text : goal.returns-else-i-text
returns-else-i-text c = search laws.no_token
