use Rattle.form.proofs.+length_node.Given as goal

abbrev pub decreases-length_node : goal.decreases-length_node
decreases-length_node l = l.n
