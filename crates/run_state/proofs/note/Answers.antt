-- note: one line a need; the laws are in Counting.
use Rattle.run_state.proofs.Counting as counting
use Rattle.run_state.proofs.note.Goals as goal

pub returns-in-Nothing : goal.returns-in-Nothing
returns-in-Nothing c = search counting.note_nothing

pub returns-in-Counts : goal.returns-in-Counts
returns-in-Counts c = search counting.note_counts
