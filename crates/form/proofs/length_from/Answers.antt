use Rattle.form.proofs.Lengths as laws
use Rattle.form.proofs.length_from.Goals as goal

pub returns-then-p-lt192 : goal.returns-then-p-lt192
returns-then-p-lt192 c = search laws.from_none

pub returns-then-p-lt224 : goal.returns-then-p-lt224
returns-then-p-lt224 c = search laws.from_one

pub returns-then-p-lt240 : goal.returns-then-p-lt240
returns-then-p-lt240 c = search laws.from_two

pub returns-then-p-lt248 : goal.returns-then-p-lt248
returns-then-p-lt248 c = search laws.from_three

pub returns-then-p-lt252 : goal.returns-then-p-lt252
returns-then-p-lt252 c = search laws.from_four

pub returns : goal.returns
returns c = search laws.from_last
