-- optimise: an answer for each need; what carries weight stands in the laws.
use Rattle.optimiser.proofs.Bytes as laws
use Rattle.optimiser.proofs.optimise.Goals as goal

pub returns-then-room-lt-ROOM : goal.returns-then-room-lt-ROOM
returns-then-room-lt-ROOM c = search laws.optimise_small

pub returns : goal.returns
returns c = search laws.optimise_done
