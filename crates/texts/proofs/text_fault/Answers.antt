-- text_fault: the place, told once the room is cleared.
use Rattle.texts.proofs.Faults as laws
use Rattle.texts.proofs.text_fault.Goals as goal

pub returns-then-room-lt-ROOM : goal.returns-then-room-lt-ROOM
returns-then-room-lt-ROOM c = search laws.fault_small

pub returns : goal.returns
returns c = search laws.fault_seen
