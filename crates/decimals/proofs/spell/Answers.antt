-- `decimals::spell` meets its contract. Assumes nothing.
use borrow.Author.Rules.{rules}
use Rattle.decimals.proofs.WordLaws as laws
use Rattle.decimals.proofs.spell.Goals as goal

pub returns-then-not-some_digits : goal.returns-then-not-some_digits
returns-then-not-some_digits c = search laws.word_nothing

pub number-requires : goal.number-requires
number-requires c = search (laws.word_digits, rules)

pub negate-requires : goal.negate-requires
negate-requires c = search (laws.word_holds, laws.word_place, rules)

pub with_sign-requires : goal.with_sign-requires
with_sign-requires c = search (laws.word_holds, laws.word_place, rules)

pub returns-in-None : goal.returns-in-None
returns-in-None c = search laws.word_over

pub returns-in-Some : goal.returns-in-Some
returns-in-Some c = search laws.minus_spelt

pub returns-in-Some-2 : goal.returns-in-Some-2
returns-in-Some-2 c = search laws.plus_spelt
