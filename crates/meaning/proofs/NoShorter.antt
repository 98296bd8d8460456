-- A list that is no shorter than another, and is that other where it is no longer. Assumes nothing.
use Prim.Native.Nat.{ℕ, ◌≤◌, ◌<◌}
use mathlib.Core.Path.{◌≡◌, ap, ap₂}
use mathlib.Core.List.{List, ◌++◌}
use lib.ListN.{length, length-append}
use native.Mathlib.Omega.{arith}

-- w is no shorter than v
pub record NoShorter (v w : List ℕ) : Type 0 where
  pub long : length v ≤ length w
  pub only : length w ≤ length v → w ≡ v

pub exactly : {v w : List ℕ} → w ≡ v → NoShorter v w
exactly {v} {w} e = record { long = let l : length w ≡ length v = ap length e in omega arith; only = λ _. e }

pub longer : {v w : List ℕ} → length v < length w → NoShorter v w
longer h = record { long = omega arith; only = λ k. absurd (omega arith) }

-- one behind the other
pub both : {a b c d : List ℕ} → NoShorter a b → NoShorter c d → NoShorter (a ++ c) (b ++ d)
both {a} {b} {c} {d} h k =
    let i = length-append a c in
    let j = length-append b d in
    let l = h.long in
    let m = k.long in
    record { long = omega arith; only = λ n. ap₂ ◌++◌ (h.only (omega arith)) (k.only (omega arith)) }
