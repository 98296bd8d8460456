-- `paths::node_path::node_path_index` meets its contract. Assumes nothing.
use Rattle.paths.proofs.SignedLaws as laws
use Rattle.paths.proofs.node_path.node_path_index.Goals as goal

pub bigint_from_bytes-requires : goal.bigint_from_bytes-requires
bigint_from_bytes-requires c = search laws.signed_fits

pub overflow_sub-s : goal.overflow_sub-s
overflow_sub-s c = search laws.signed_fits

pub measured-requires : goal.measured-requires
measured-requires c = search laws.signed_zeros

pub returns-then-negative : goal.returns-then-negative
returns-then-negative c = search laws.held_negative

pub returns : goal.returns
returns c = search laws.held_positive
