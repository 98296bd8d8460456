-- optimise_text: the text's run, and then the room is cleared.
use Rattle.texts.proofs.Bytes as laws
use Rattle.texts.proofs.optimise_text.Goals as goal

pub returns-then-room-lt-ROOM : goal.returns-then-room-lt-ROOM
returns-then-room-lt-ROOM c = search laws.optimise_small

pub returns : goal.returns
returns c = search laws.optimise_done
