-- same_name: the atom's bytes are compared.
use Rattle.pattern.proofs.Laws as laws
use Rattle.pattern.proofs.same_name.Goals as goal

pub returns : goal.returns
returns c = search laws.bytes_alike
