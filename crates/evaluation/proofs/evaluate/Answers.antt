-- evaluate: an answer for each need; what carries weight stands in the laws.
use Rattle.evaluation.proofs.Bytes as laws
use Rattle.evaluation.proofs.evaluate.Goals as goal

pub returns-then-room-lt-ROOM : goal.returns-then-room-lt-ROOM
returns-then-room-lt-ROOM c = search laws.evaluate_small

pub returns : goal.returns
returns c = search laws.evaluate_done
