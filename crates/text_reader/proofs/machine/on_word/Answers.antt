-- on_word: the word's bytes as an atom. Assumes nothing.
use Rattle.text_reader.proofs.MachineLaws as laws
use borrow.Author.Rules.{rules}
use Rattle.text_reader.proofs.machine.on_word.Goals as goal

pub on_spelled-requires : goal.on_spelled-requires
on_spelled-requires c = search (laws.word_sub, rules)

pub returns-in-From : goal.returns-in-From
returns-in-From c = search laws.word_done

pub returns-in-Long : goal.returns-in-Long
returns-in-Long c = search laws.word_long

pub returns-in-Nothing : goal.returns-in-Nothing
returns-in-Nothing c = search laws.word_stuck
