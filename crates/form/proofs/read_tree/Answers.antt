-- read_tree: byte by byte, with the pairs that wait. Assumes nothing.
use Rattle.form.proofs.Reader as laws
use borrow.Author.Rules.{rules}
use Rattle.std.proofs.lemmas.Result.{err_from_is_err_and}
use Rattle.form.proofs.read_tree.Goals as goal

pub loop-next-init : goal.loop-next-init
loop-next-init c = (search laws.going_starts, search rules)

pub loop-next-preserved-then-form-next : goal.loop-next-preserved-then-form-next
loop-next-preserved-then-form-next c = (search laws.going_open, search rules)

pub returns-in_err-atom : goal.returns-in_err-atom
returns-in_err-atom c = let p = err_from_is_err_and c.from_residual.result c.from_residual.ensures.1 in rw (p.1, p.2) (search (laws.going_refused, c.in_err-atom.was))

pub close-requires : goal.close-requires
close-requires c = (laws.going_ready c.loop-next.invariant.0 c.loop-next-test.true _ c.read_atom.ensures c.in_ok-atom.was, laws.going_waits c.loop-next.invariant.0 c.loop-next-test.true _ c.read_atom.ensures c.in_ok-atom.was)

pub returns-in_err-whole : goal.returns-in_err-whole
returns-in_err-whole c = let p = err_from_is_err_and c.from_residual-in_err-whole.result c.from_residual-in_err-whole.ensures.1 in rw (p.1, p.2) (search (laws.going_over, c.in_err-whole.was, c.in_ok-atom.was))

pub returns-then-whole-eq0 : goal.returns-then-whole-eq0
returns-then-whole-eq0 c = search (laws.going_done, c.in_ok-atom.was, c.in_ok-whole.was)

pub overflow_cast-wait : goal.overflow_cast-wait
overflow_cast-wait c = search (laws.going_small, c.in_ok-atom.was, c.in_ok-whole.was)

pub offset_bounds-wait-whole : goal.offset_bounds-wait-whole
offset_bounds-wait-whole c = search (laws.going_scaled, c.in_ok-atom.was, c.in_ok-whole.was)

pub bounds-wait-whole : goal.bounds-wait-whole
bounds-wait-whole c = search (laws.going_place, c.in_ok-atom.was, c.in_ok-whole.was)

pub loop-next-smaller : goal.loop-next-smaller
loop-next-smaller c = search (laws.going_less, c.in_ok-atom.was)

pub loop-next-preserved : goal.loop-next-preserved
loop-next-preserved c = (search (laws.going_left, c.in_ok-atom.was, c.in_ok-whole.was), search rules)

pub returns : goal.returns
returns c = search laws.going_ends
