-- `paths::node_path::compose_paths` meets its contract. Assumes nothing.
use Rattle.paths.proofs.ComposeLaws as laws
use Rattle.paths.proofs.node_path.compose_paths.Goals as goal

pub returns-then-len-eq0 : goal.returns-then-len-eq0
returns-then-len-eq0 c = search laws.composed_none

pub joined-requires : goal.joined-requires
joined-requires c = search laws.top_few

pub overflow_sub-bytes : goal.overflow_sub-bytes
overflow_sub-bytes c = search laws.some_before

pub overflow_sub-at-2 : goal.overflow_sub-at-2
overflow_sub-at-2 c = search laws.some_before

pub measured-requires : goal.measured-requires
measured-requires c = search laws.two_zeros

pub returns : goal.returns
returns c = let h = rw c.to_be_bytes.ensures at c.measured.ensures in search laws.two_composed
