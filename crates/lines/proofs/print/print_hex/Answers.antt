-- print_hex: an answer for each need; what carries weight stands in the laws.
use Rattle.lines.specs.Hex.{hex_of}
use Rattle.lines.proofs.Printing as printing
use Rattle.lines.proofs.print.print_hex.Goals as goal

pub loop-x-init : goal.loop-x-init
loop-x-init c = search (printing.starts hex_of printing.hex_each)

pub loop-x-preserved : goal.loop-x-preserved
loop-x-preserved c = search (printing.turn hex_of printing.hex_each)
