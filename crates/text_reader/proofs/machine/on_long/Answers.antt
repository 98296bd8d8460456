-- on_long: an answer for each need; what carries weight stands in the laws.
use Rattle.text_reader.proofs.MachineLaws as laws
use Rattle.text_reader.proofs.machine.on_long.Goals as goal

pub returns-in_err-wanted : goal.returns-in_err-wanted
returns-in_err-wanted c = search (laws.long_stuck, c.in_err-wanted.ensures)

pub returns : goal.returns
returns c = search (laws.long_done, c.in_ok-wanted.ensures)
