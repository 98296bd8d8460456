-- with_answer: one line a need; the laws are in Adding.
use borrow.Author.Rules.{rules}
use mathlib.Core.Path.{◌∙◌}
use Rattle.totals.proofs.Adding as adding
use Rattle.totals.proofs.with_answer.Goals as goal

pub overflow_add-result : goal.overflow_add-result
overflow_add-result c = search adding.answered_fits

pub overflow_add-result-2 : goal.overflow_add-result-2
overflow_add-result-2 c = search adding.marked_fits

pub overflow_add-result-3 : goal.overflow_add-result-3
overflow_add-result-3 c = search adding.before_fits

pub overflow_add-result-4 : goal.overflow_add-result-4
overflow_add-result-4 c = search adding.after_fits

pub with_counts-rules-requires : goal.with_counts-rules-requires
with_counts-rules-requires c = (search adding.open_rules, search rules)

pub returns : goal.returns
returns c = adding.answered_is c.args.s c.args.a.before c.args.a.after c.args.a.passes _ c.args.a.mark _ _ c.with_counts-rules.ensures (c.max.ensures ∙ adding.greater_is c.args.s.passes c.args.a.passes)
