-- take_token: a step for each token. Assumes nothing.
use Rattle.text_reader.proofs.TurnLaws as turns
use borrow.Author.Rules.{rules}
use Rattle.text_reader.proofs.machine.take_token.Goals as goal

pub on_open-requires : goal.on_open-requires
on_open-requires c = search (turns.open_depth, turns.open_small, rules)

pub slice_bounds-on_word-count : goal.slice_bounds-on_word-count
slice_bounds-on_word-count c = search turns.word_upto

pub slice_bounds-on_word-start : goal.slice_bounds-on_word-start
slice_bounds-on_word-start c = search turns.word_upto

pub slice_bounds-on_word-end : goal.slice_bounds-on_word-end
slice_bounds-on_word-end c = search turns.word_within

pub slice_bounds-on_atom-count : goal.slice_bounds-on_atom-count
slice_bounds-on_atom-count c = search turns.quoted_upto

pub slice_bounds-on_atom-start : goal.slice_bounds-on_atom-start
slice_bounds-on_atom-start c = search turns.quoted_upto

pub slice_bounds-on_atom-end : goal.slice_bounds-on_atom-end
slice_bounds-on_atom-end c = search turns.quoted_within

pub overflow_add-to : goal.overflow_add-to
overflow_add-to c = search turns.quoted_fits

pub returns-in-Open : goal.returns-in-Open
returns-in-Open c = search turns.open_turn

pub returns-in-Close : goal.returns-in-Close
returns-in-Close c = search turns.close_turn

pub returns-in-Dot : goal.returns-in-Dot
returns-in-Dot c = search turns.dot_turn

pub returns-in-Word : goal.returns-in-Word
returns-in-Word c = search turns.word_turn

pub returns-in-Quoted : goal.returns-in-Quoted
returns-in-Quoted c = search turns.quoted_turn

pub returns-in-Wrong : goal.returns-in-Wrong
returns-in-Wrong c = search turns.wrong_turn

pub returns-in-End : goal.returns-in-End
returns-in-End c = search turns.end_here
