-- What the functions on a trace's bytes promise.
use Rattle.refusals.specs.declared.Refusal.{Refusal}
use Rattle.std.specs.Prelude.{Result, Ok, Err}
use Rattle.std.specs.Prelude.{ℕ, ◌+◌, ◌-◌, ◌*◌, ◌≤◌, ◌≡◌, List, ◌∷◌, ◌++◌, Bool, true, false, length, take, drop, get_or}
use Rattle.std.proofs.Math.Option.{Option, none, some}
use Rattle.meaning.specs.Limits.{trace_limit}
use Rattle.meaning.specs.Trace.{four_bytes, taken, not_taken, entries_of, take_trace}

-- the number that the two bytes from at on say
unfoldable pub two_at : List ℕ → ℕ → ℕ
two_at f at = get_or f at 0 * 256 + get_or f (at + 1) 0

unfoldable pub is_some : {A : Type 0} → Option A → Bool
is_some none = false
is_some (some a) = true

-- these bytes are entries and the counts, and no more
unfoldable pub is_whole : List ℕ → Bool
unfolding entries_of is_some
is_whole bs = is_some (entries_of (length bs) bs)

-- the trace f is taken apart: its form ends at stop, and its entries follow
pub record TakenTo (f : List ℕ) (stop : ℕ) : Type 0 where
  pub after : 7 ≤ stop
  pub within : stop ≤ length f
  pub short : length f ≤ trace_limit
  pub entries : List (List ℕ)
  pub these : entries_of (length (drop stop f)) (drop stop f) ≡ some entries
  pub is : take_trace f ≡ taken (take (stop - 7) (drop 7 f)) entries

unfoldable pub TakenOk : List ℕ → Result ℕ Refusal → Type 0
TakenOk f (Ok stop) = TakenTo f stop
TakenOk f (Err n) = take_trace f ≡ not_taken n

-- these bytes stand in the output from at on; the rest is as it was
unfoldable pub put_at : List ℕ → ℕ → List ℕ → List ℕ
put_at out at m = take at out ++ (m ++ drop (at + length m) out)

-- the counts: "a zero byte, then passes and units as 32 bits each"
unfoldable pub counts_of : ℕ → ℕ → List ℕ
unfolding four_bytes
counts_of passes units = 0 ∷ (four_bytes passes ++ four_bytes units)
