-- `paths_rows::print_composed` meets its contract. Assumes nothing.
use Rattle.paths.proofs.SignedLaws.{number_short}
use Rattle.paths_rows.proofs.print_composed.Goals as goal

pub compose_paths-requires-clause-bytes_bound : goal.compose_paths-requires-clause-bytes_bound
compose_paths-requires-clause-bytes_bound c = search number_short
