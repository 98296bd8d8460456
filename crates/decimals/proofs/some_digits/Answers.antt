-- `decimals::some_digits` meets its contract. Assumes nothing.
use Rattle.std.proofs.Common.{rules, tests}
use Rattle.std.proofs.lemmas.Iterator.{YieldsList-from_slice}
use Rattle.std.proofs.lemmas.Iterator.Search.{all_from_yields_List}
use Rattle.std.specs.Char.{is_ascii_digit}
use Rattle.decimals.proofs.DigitLaws as laws
use Rattle.decimals.proofs.some_digits.Goals as goal

pub returns-then-not-is_empty : goal.returns-then-not-is_empty
returns-then-not-is_empty c =
    let all = all_from_yields_List is_ascii_digit _ _ c.all.result c.all.ensures.ran (YieldsList-from_slice c.args.w.now cc) (λ x b q k. search (rules, tests)) in
    laws.some_all _ c.is_empty.ensures c.if-not-is_empty.true all

pub returns-else-not-is_empty : goal.returns-else-not-is_empty
returns-else-not-is_empty c = laws.some_none _ c.is_empty.ensures c.if-not-is_empty.false
