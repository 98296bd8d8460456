-- is_open: one line a need; the laws are in Summing.
use Rattle.std.proofs.Common.{◌∙◌, sym, arith}
use borrow.Author.Tests.{ltb-true}
use Rattle.totals.proofs.Summing as summing
use Rattle.totals.proofs.is_open.Goals as goal
use Rattle.totals.proofs.is_open.Goals.{then-forms_in-lt-FORMS, else-forms_in-lt-FORMS}

pub returns-then-all_small : goal.returns-then-all_small
returns-then-all_small c =
    elim c.if-forms_in-lt-FORMS.branch [
      | then-forms_in-lt-FORMS w ↦ summing.sums_open c.args.s c.forms_in.result c.forms_in.ensures w.if-forms_in-lt-FORMS.true w.all_small.result _ w.all_small.ensures (sym w.value-is ∙ c.if-all_small.true) c.all_small-then-all_small.ensures
      | else-forms_in-lt-FORMS w ↦ let few = ltb-true c.forms_in.result 4096 (sym w.value-is ∙ c.if-all_small.true) in absurd (omega (arith, few))
    ]

pub returns-else-all_small : goal.returns-else-all_small
returns-else-all_small c =
    elim c.if-forms_in-lt-FORMS.branch [
      | then-forms_in-lt-FORMS w ↦ c.if-all_small.false ∙ summing.sums_not c.args.s c.forms_in.result c.forms_in.ensures w.if-forms_in-lt-FORMS.true w.all_small.result w.all_small.ensures (sym w.value-is ∙ c.if-all_small.false)
      | else-forms_in-lt-FORMS w ↦ c.if-all_small.false ∙ summing.full_not c.args.s c.forms_in.result c.forms_in.ensures w.if-forms_in-lt-FORMS.false
    ]
