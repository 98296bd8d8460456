-- `decimals::with_sign` meets its contract. Assumes nothing.
use Rattle.decimals.proofs.SignLaws as laws
use Rattle.decimals.proofs.with_sign.Goals as goal
use Rattle.decimals.proofs.with_sign.Goals.{else-at-room-via-then-at-room+else-room-at-ge128, else-at-room-via-else-at-room}

pub returns-then-room-at-ge128 : goal.returns-then-room-at-ge128
returns-then-room-at-ge128 c = search laws.sign_set

pub returns : goal.returns
returns c = elim c.else-at-room.branch [
  | else-at-room-via-then-at-room+else-room-at-ge128 w ↦ search laws.sign_low
  | else-at-room-via-else-at-room w ↦ search laws.sign_none
]
