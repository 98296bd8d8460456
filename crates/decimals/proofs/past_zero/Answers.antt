-- `decimals::past_zero` meets its contract. Assumes nothing.
use Rattle.decimals.proofs.RoomLaws as laws
use Rattle.decimals.proofs.past_zero.Goals as goal

pub returns-then-room-at-eq0 : goal.returns-then-room-at-eq0
returns-then-room-at-eq0 c = search laws.past_zero

pub returns-else-room-at-eq0 : goal.returns-else-room-at-eq0
returns-else-room-at-eq0 c = search laws.past_none
