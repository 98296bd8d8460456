-- all_small: the law is in Summing.
use Rattle.std.proofs.Common.{◌^◌, ◌∙◌, ltb, rules, tests}
use Rattle.std.proofs.lemmas.Iterator.{YieldsList-from_slice}
use Rattle.std.proofs.lemmas.Iterator.Search.{all_from_yields_List}
use Rattle.totals.proofs.Summing as summing
use Rattle.totals.proofs.all_small.Goals as goal

pub returns : goal.returns
returns c =
    all_from_yields_List (λ n. ltb n (2 ^ 63)) _ _ c.all.result c.all.ensures.ran (YieldsList-from_slice c.args.ns.now cc) (λ x b q k. search (rules, tests))
    ∙ summing.small_each c.args.ns.now
