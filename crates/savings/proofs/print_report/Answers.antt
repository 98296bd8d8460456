-- print_report: one line a need; the laws are in Printing.
use Rattle.savings.proofs.Printing as printing
use Rattle.savings.proofs.print_report.Goals as goal

pub returns : goal.returns
returns c = printing.report_printed _ _ _ _ _ _ _ _ _ _ _ _ c.print_totals.ensures c.print_refused-c.ensures c.print_row-b.ensures c.print_row-a.ensures c.forms_in-forms.ensures
