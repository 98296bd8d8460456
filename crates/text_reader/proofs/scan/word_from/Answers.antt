-- word_from: by the length and the first byte. Assumes nothing.
use Rattle.text_reader.proofs.ScanLaws as laws
use Rattle.text_reader.proofs.scan.word_from.Goals as goal
use Rattle.text_reader.proofs.scan.word_from.Goals.{else-end-at-eq1-via-then-end-at-eq1+else-text-at-eq46, else-end-at-eq1-via-else-end-at-eq1}

pub returns-then-text-at-eq46 : goal.returns-then-text-at-eq46
returns-then-text-at-eq46 c = search laws.word_dot

pub returns : goal.returns
returns c = elim c.else-end-at-eq1.branch [
  | else-end-at-eq1-via-then-end-at-eq1+else-text-at-eq46 w ↦ search laws.word_one
  | else-end-at-eq1-via-else-end-at-eq1 w ↦ search laws.word_more
]
