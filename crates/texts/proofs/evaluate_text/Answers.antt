-- evaluate_text: the value, and then the room is cleared.
use Rattle.texts.proofs.Values as laws
use Rattle.texts.proofs.evaluate_text.Goals as goal

pub returns-then-room-lt-ROOM : goal.returns-then-room-lt-ROOM
returns-then-room-lt-ROOM c = search laws.evaluate_small

pub returns : goal.returns
returns c = search laws.evaluate_done
