-- write_text: the form's text, and then the room is cleared.
use Rattle.texts.proofs.Bytes as laws
use Rattle.texts.proofs.write_text.Goals as goal

pub returns-then-room-lt-ROOM : goal.returns-then-room-lt-ROOM
returns-then-room-lt-ROOM c = search laws.write_small

pub returns : goal.returns
returns c = search laws.write_done
