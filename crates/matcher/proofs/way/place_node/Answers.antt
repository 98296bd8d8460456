-- place_node: a turn at a time, at most 511 of them.
use Rattle.meaning.specs.Match as meaning
use Rattle.matcher.proofs.WayLaws as laws
use Rattle.matcher.proofs.way.place_node.Goals as goal

pub returns : goal.returns
unfolding meaning.place_bytes
returns c = search laws.walk_deep

pub loop-turn-init : goal.loop-turn-init
loop-turn-init c = search laws.walk_starts

pub in_64-requires : goal.in_64-requires
in_64-requires c = (search laws.walk_holds, search laws.walk_short)

pub returns-in-None : goal.returns-in-None
returns-in-None c = search laws.walk_ends

pub compose_paths-path-requires-clause-bytes_bound : goal.compose_paths-path-requires-clause-bytes_bound
compose_paths-path-requires-clause-bytes_bound c = search laws.walk_short

pub loop-turn-preserved : goal.loop-turn-preserved
loop-turn-preserved c = search laws.walk_again
