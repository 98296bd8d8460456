-- An answer's bytes stand at the front of the output.
use mathlib.Core.Path.{◌≡◌, sym, ◌∙◌, ap}
use mathlib.Core.List.{List, ◌++◌}
use Prim.Native.Nat.{ℕ, ◌+◌, ◌≤◌}
use native.Mathlib.Omega.{arith}
use lib.ListN.{length, take, drop, length-append}
use lib.Seq.{take_at}

pub record Front (bs w : List ℕ) (n : ℕ) : Type 0 where
  pub within : n ≤ length w
  pub bytes : take n w ≡ bs

pub front : (bs w w' : List ℕ) (n : ℕ) → w' ≡ bs ++ drop (length bs) w → n ≡ length bs → Front bs w' n
front bs w w' n e l =
    let z : length w' ≡ length bs + length (drop (length bs) w) = ap length e ∙ length-append bs (drop (length bs) w) in
    record { within = omega arith; bytes = ap (take n) e ∙ take_at bs (drop (length bs) w) n (sym l) }
