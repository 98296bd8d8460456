-- `paths::node_path::joined` meets its contract. Assumes nothing.
use Rattle.paths.proofs.ComposeLaws as laws
use Rattle.paths.proofs.node_path.joined.Goals as goal

pub returns : goal.returns
returns c = rw (c.from.ensures, c.from-2.ensures) (search laws.moved_in)
