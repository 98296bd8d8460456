-- longer_positive: an answer for each need; what carries weight stands in the laws.
use Rattle.paths.proofs.LengthenLaws as laws
use Rattle.paths.proofs.path_rule.longer_positive.Goals as goal

pub returns-then-s-gt64 : goal.returns-then-s-gt64
returns-then-s-gt64 c = search laws.positive_long

pub compose_paths-path-requires-clause-bytes_bound : goal.compose_paths-path-requires-clause-bytes_bound
compose_paths-path-requires-clause-bytes_bound c = search laws.positive_fits

pub returns : goal.returns
returns c = search laws.positive_longer
