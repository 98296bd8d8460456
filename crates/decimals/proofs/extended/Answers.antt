-- `decimals::extended` meets its contract. Assumes nothing.
use Rattle.decimals.proofs.RoomLaws as laws
use Rattle.decimals.proofs.extended.Goals as goal

pub returns : goal.returns
returns c = search laws.extended
