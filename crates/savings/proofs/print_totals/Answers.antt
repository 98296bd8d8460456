-- print_totals: one line a need; the laws are in Printing.
use mathlib.Core.Path.{◌≡◌}
use borrow.Author.Rules.{rules}
use Rattle.savings.specs.Report.{rule_numbers}
use Rattle.savings.proofs.Printing as printing
use Rattle.savings.proofs.print_totals.Goals as goal

pub returns : goal.returns
returns c =
    let eight : c.map-rules.result ≡ rule_numbers c.args.s.rules = printing.eight_same c.map-rules.result c.args.s.rules c.map-rules.ensures.items.long (λ i l. let a = c.map-rules.ensures.items.at i 0 0 l in search rules) in
    printing.totals_printed c.args.s _ _ _ _ _ _ _ _ _ _ (printing.row_of_rules c.map-rules.result (rule_numbers c.args.s.rules) eight _ _ _ _ c.print_row.ensures) c.print_row-c.ensures c.print_row-b.ensures c.print_row-a.ensures
