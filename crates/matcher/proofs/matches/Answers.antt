-- matches: the room is tried, the forms are worked, the answer is delivered, and the room is zeroed.
use Rattle.meaning.specs.Match.{place_bytes}
use Rattle.matcher.proofs.Whole as laws
use Rattle.matcher.proofs.matches.Goals as goal

pub returns-then-room-lt-ROOM : goal.returns-then-room-lt-ROOM
unfolding place_bytes
returns-then-room-lt-ROOM c = search laws.matches_small

pub returns : goal.returns
returns c = search laws.matches_worked
