-- place_node: a turn at a time, at most 511 of them.
use mathlib.Core.List.{[]}
use Rattle.meaning.specs.Match as meaning
use Rattle.store.specs.Nodes.{tree_at}
use Rattle.matcher.proofs.WayLaws as laws
use Rattle.matcher.proofs.way.place_node.Given as goal

abbrev pub invariant-loop-turn : goal.invariant-loop-turn
invariant-loop-turn l = laws.Walking l.form l.initial.room l.room l.ch (meaning.match_sexp (tree_at l.form l.initial.room l.p) (tree_at l.form l.initial.room l.s) []) l.w l.path l._turn
