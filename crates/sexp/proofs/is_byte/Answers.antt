-- is_byte: an answer for each need; what carries weight stands in the laws.
use Rattle.std.proofs.Common.{◌≡◌, length, arith}
use Rattle.sexp.proofs.Tests as tests
use Rattle.sexp.proofs.is_byte.Goals as goal

pub returns-in-len1 : goal.returns-in-len1
returns-in-len1 c = let e : length c.args.b.now ≡ 1 = omega arith in search tests.byte_one

pub returns-in_default : goal.returns-in_default
returns-in_default c = let e : length c.args.b.now ≡ 1 → ⊥ = λ h. omega arith in search tests.byte_none

pub returns-in_default-2 : goal.returns-in_default-2
returns-in_default-2 c = let e : length c.args.b.now ≡ 1 → ⊥ = λ h. omega arith in search tests.byte_none
