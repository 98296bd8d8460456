-- join: an answer for each need; what carries weight stands in the laws.
use Rattle.sexp.proofs.Equal as equal
use Rattle.sexp.proofs.join.Goals as goal

pub join_node-requires : goal.join_node-requires
join_node-requires c = rw (c.max.ensures, c.min.ensures) (equal.join_ordered _ _ _ _ _ c.requires)
