-- umlazgrin_add_form: one line a need; the laws are in Totals.
use Rattle.library.proofs.Totals as totals
use Rattle.library.proofs.umlazgrin_add_form.Goals as goal

pub returns-in-Answered : goal.returns-in-Answered
returns-in-Answered c = search totals.answered_told

pub returns-in-Refused : goal.returns-in-Refused
returns-in-Refused c = search totals.refused_told

pub returns-in-Full : goal.returns-in-Full
returns-in-Full c = search totals.full_told
