-- lay_apply: an answer for each need; what carries weight stands in the laws.
use Rattle.patterns.proofs.Laws as laws
use native.Mathlib.Omega.{arith}
use borrow.Author.Rules.{rules}
use Rattle.patterns.proofs.lay_apply.Goals as goal

pub lay_call_2-requires : goal.lay_call_2-requires
lay_call_2-requires c = (laws.laid_old c.lay_name-a.ensures c.lay_headed-q.ensures.stands.ready, search rules, omega (arith, c.lay_name-a.ensures.free, c.lay_headed-q.ensures.free, c.lay_name-s.ensures.free, c.requires.1))

pub shape_of-room : goal.shape_of-room
shape_of-room c = laws.laid_long (laws.apply_laid c.lay_call_2.ensures c.lay_name-a.ensures c.lay_headed-q.ensures c.lay_name-s.ensures)

pub returns : goal.returns
returns c = laws.apply_laid c.lay_call_2.ensures c.lay_name-a.ensures c.lay_headed-q.ensures c.lay_name-s.ensures
