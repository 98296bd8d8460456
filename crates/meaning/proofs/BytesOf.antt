-- The shortest bytes of a number are read back as it. Assumes nothing.
use Prim.Native.Nat.{ℕ, zero, suc, ◌+◌, ◌*◌, ◌/◌, ◌%◌, ◌≤◌}
use mathlib.Core.Path.{◌≡◌, ◌∙◌, ap}
use mathlib.Core.List.{List, [], ◌∷◌}
use lib.Dec.{leb}
use native.Mathlib.Omega.{arith}
use Rattle.meaning.specs.Number.{number_from, number, bytes_onto, bytes_of}
use Rattle.meaning.proofs.Tests.{on_bool, leb_yes}

number_bytes_onto : (k n : ℕ) (bs : List ℕ) → n ≤ k → number_from 0 (bytes_onto k n bs) ≡ number_from n bs
unfolding bytes_onto number_from
number_bytes_onto zero n bs h = let e : 0 ≡ n = omega arith in ap (λ m. number_from m bs) e
number_bytes_onto (suc k) n bs h =
    on_bool (leb n 0)
    (λ e. let l = leb_yes n 0 e in let z : 0 ≡ n = omega arith in rw (e, bytes_onto) (ap (λ m. number_from m bs) z))
    (λ e.
    let d : n / 256 * 256 + n % 256 ≡ n = omega arith in
    rw (e, bytes_onto) (number_bytes_onto k (n / 256) (n % 256 ∷ bs) (omega arith) ∙ ap (λ m. number_from m bs) d))

pub number_bytes_of : (n : ℕ) → number (bytes_of n) ≡ n
unfolding number bytes_of
number_bytes_of n = number_bytes_onto n n [] (omega arith)
