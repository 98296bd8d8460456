-- on_open: an answer for each need; what carries weight stands in the laws.
use Rattle.text_reader.proofs.MachineLaws as laws
use Rattle.text_reader.proofs.machine.on_open.Goals as goal

pub returns-in_err-opened : goal.returns-in_err-opened
returns-in_err-opened c = laws.open_stuck _ _ _ _ _ c.in_err-opened.ensures c.from_residual.ensures

pub returns : goal.returns
returns c = search (laws.open_done, c.in_ok-opened.ensures)
