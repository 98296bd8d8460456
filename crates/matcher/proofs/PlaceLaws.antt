-- A place is a path in 64 bytes: what number they hold, and that it needs no more. Assumes nothing.
use Prim.Native.Nat.{ℕ, suc, ◌+◌, ◌-◌, ◌*◌, ◌^◌, ◌≤◌, ◌<◌}
use mathlib.Core.Path.{◌≡◌, refl, sym, ◌∙◌, ap}
use mathlib.Core.List.{List}
use mathlib.Core.Bool.{Bool, true, false}
use native.Mathlib.Nat.{pow-le-pow_right, lt_of_lt_of_le}
use native.Mathlib.Omega.{arith}
use lib.Dec.{leb}
use lib.ListN.{length, replicate, length-replicate}
use Rattle.meaning.specs.Limits.{path_limit, place_turns}
use Rattle.meaning.specs.Number.{number, onto, bytes_of}
use Rattle.meaning.specs.Match.{Match, matched, no_match, too_many_names, place, place_bytes}
use Rattle.meaning.proofs.Tests.{leb_yes}
use Rattle.meaning.proofs.Places.{path_below, path_above}
use Rattle.paths.proofs.NumberLaws.{number_append, upto_all, upto_zeros, powers}
use Rattle.paths.proofs.ShortestLaws.{number_bytes_of}
use Rattle.paths.proofs.SizeLaws.{short_bytes, long_bytes}

number_zeros : (k : ℕ) → number (replicate k 0) ≡ 0
number_zeros k = sym (upto_all (replicate k 0) k (length-replicate k 0)) ∙ upto_zeros k k

-- the 64 bytes hold the number
pub place_number : (n : ℕ) → number (place_bytes n) ≡ n
unfolding place_bytes
place_number n =
    let a : number (place_bytes n) ≡ number (replicate (path_limit - length (bytes_of n)) 0) * 256 ^ length (bytes_of n) + number (bytes_of n) =
    number_append (replicate (path_limit - length (bytes_of n)) 0) (bytes_of n) in
    let b : number (replicate (path_limit - length (bytes_of n)) 0) * 256 ^ length (bytes_of n) ≡ 0 * 256 ^ length (bytes_of n) = ap (◌* 256 ^ length (bytes_of n)) (number_zeros (path_limit - length (bytes_of n))) in
    let c : number (bytes_of n) ≡ n = number_bytes_of n in
    omega arith

-- 511 turns fit 64 bytes
pub turns_fit : (ds : List Bool) (k : ℕ) → suc (length ds) ≤ 8 * k → onto ds 1 < 256 ^ k
turns_fit ds k h = rw (powers k) (lt_of_lt_of_le (path_below ds) (pow-le-pow_right (omega arith) h))

-- and 512 do not
pub turns_over : (ds : List Bool) (k : ℕ) → 8 * k ≤ length ds → k < length (bytes_of (onto ds 1))
turns_over ds k h =
    let a : 2 ^ (8 * k) ≤ 2 ^ length ds = pow-le-pow_right (omega arith) h in
    let b : 2 ^ length ds ≤ onto ds 1 = path_above ds in
    let e : 256 ^ k ≡ 2 ^ (8 * k) = powers k in
    long_bytes (onto ds 1) k (omega arith)

pub place_short : (m : Match) → length (bytes_of (place m)) ≤ path_limit
unfolding place bytes_of
place_short (matched ks) = omega arith
place_short (no_match ds) = go (leb (length ds) place_turns) refl
  where
    go : (b : Bool) → leb (length ds) place_turns ≡ b → length (bytes_of (elim b [ true ↦ onto ds 1 | false ↦ 0 ])) ≤ path_limit
    go true e = let h : length ds ≤ place_turns = leb_yes (length ds) place_turns e in short_bytes (onto ds 1) path_limit (turns_fit ds path_limit (omega arith))
    go false e = omega arith
place_short too_many_names = omega arith
