-- `paths::casts::zeros` meets its contract. Assumes nothing.
use Rattle.std.proofs.Common.{◌≡◌, ◌≢◌, rules, tests}
use Rattle.std.proofs.lemmas.Iterator.{IsFirst-from_position, YieldsList-from_slice}
use Rattle.paths.proofs.ShortestLaws.{first_place}
use Rattle.paths.proofs.casts.zeros.Goals as goal

pub returns : goal.returns
returns c =
    let first = IsFirst-from_position _ _ _ (λ x. x ≢ 0) (λ x. x ≡ 0) c.position.ensures.ran (YieldsList-from_slice c.args.b.now cc) (λ x q k. search (rules, tests)) (λ x q k. search (rules, tests)) in
    rw c.unwrap_or.ensures (first_place _ _ first (λ k. c.type_inv.b k))
