-- `decimals::signed_word` meets its contract. Assumes nothing.
use Rattle.decimals.proofs.WordLaws as laws
use Rattle.decimals.proofs.signed_word.Goals as goal

pub returns-in-Some : goal.returns-in-Some
returns-in-Some c = let (begins, rest, long) = c.in-Some.ensures.cases in laws.word_minus _ begins rest c.spell.ensures

pub returns-in-None : goal.returns-in-None
returns-in-None c = laws.word_plus _ c.in-None.ensures.cases c.spell-in-None.ensures
