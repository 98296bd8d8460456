-- lookup: one line a need; the laws are in Entries.
use Rattle.std.proofs.Common.{sym, refl, rules}
use Rattle.memo.proofs.Entries as entries
use Rattle.memo.proofs.lookup.Goals as goal

pub returns-in-Counts : goal.returns-in-Counts
returns-in-Counts c = search entries.noting

pub returns-in-Some : goal.returns-in-Some
returns-in-Some c = let l = c.in-Some.ensures.0 in let e = sym c.in-Some.ensures.1 in search entries.hit

pub returns-in-None : goal.returns-in-None
returns-in-None c = let e = sym c.in-None.ensures in entries.miss _ _ _ _ _ _ _ (search rules) (search rules) _ e _ (search rules) refl
