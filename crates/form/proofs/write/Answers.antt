use Rattle.form.proofs.Bytes as laws
use Rattle.form.proofs.write.Goals as goal

pub returns-then-room-lt-ROOM : goal.returns-then-room-lt-ROOM
returns-then-room-lt-ROOM c = search laws.write_small

pub deliver-a-requires : goal.deliver-a-requires
deliver-a-requires c = search laws.whole_writable

pub returns-in-Ok : goal.returns-in-Ok
returns-in-Ok c = search laws.write_done

pub returns-in-Err : goal.returns-in-Err
returns-in-Err c = search laws.write_refused
