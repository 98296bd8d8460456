-- The one proof of follow_node's cycle: one line a need; the laws are in Following and Writer.
use borrow.Author.Rules.{rules}
use Rattle.form.proofs.Writer as laws
use Rattle.form.proofs.Following as following
use Rattle.form.proofs.+follow_node.Goals as goal
use Rattle.form.proofs.+follow_node.Goals.{then-form-at-via-then-form-at, then-form-at-via-else-form-at+then-form-at-2}

pub returns-then-form-at : goal.returns-then-form-at
returns-then-form-at t c =
    elim c.then-form-at.branch [ then-form-at-via-then-form-at w ↦ search following.pair_none | then-form-at-via-else-form-at+then-form-at-2 w ↦ search following.pair_other ]

pub follow_node-requires : goal.follow_node-requires
follow_node-requires t c = (search laws.falls_left, (search laws.writable_left, search rules))

pub follow_node-requires-in-Pair : goal.follow_node-requires-in-Pair
follow_node-requires-in-Pair t c = (search laws.falls_right, (search laws.writable_right, search (following.left_inside, c.in_ok-middle-in-Pair.was)))

pub follow_atom-requires : goal.follow_atom-requires
follow_atom-requires t c = (search laws.atom_few, search rules)

pub returns-in_err-middle-in-Pair : goal.returns-in_err-middle-in-Pair
returns-in_err-middle-in-Pair t c = rw c.from_residual.ensures (search (following.pair_left_off, c.in_err-middle-in-Pair.was))

pub returns-in_ok-middle-in-Pair : goal.returns-in_ok-middle-in-Pair
returns-in_ok-middle-in-Pair t c = search (following.pair_followed, c.in_ok-middle-in-Pair.was)

pub returns-in-Atom : goal.returns-in-Atom
returns-in-Atom t c = search following.leaf_followed
