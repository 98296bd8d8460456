-- A stretch of the lent bytes as the definition reads it.
use Rattle.std.specs.Prelude.{ℕ, ◌-◌, ◌≤◌, ◌≡◌, List, length, take, drop, Result, Ok, Err}
use Rattle.refusals.specs.declared.Refusal.{Refusal}
use Rattle.meaning.specs.Tree.{Tree}
use Rattle.meaning.specs.Meter.{Out, done, stop, M}
use Rattle.meaning.specs.Form.{Reading, limits, read}

-- the bytes of f from at to end
unfoldable pub span : List ℕ → ℕ → ℕ → List ℕ
span f at end = take (end - at) (drop at f)

-- they are left to read, and u units are charged
abbrev pub left_from : List ℕ → ℕ → ℕ → ℕ → Reading
left_from f at end u = record { left = span f at end; units = u }

-- the next tree, within 01's limits
unfoldable pub next_tree : M Reading Tree
unfolding read
next_tree s = read limits (length s.left) s

-- work is refused with n (data, not a record: `search` builds records, and has no way to choose the state)
pub data Stops {A : Type 0} (o : Out Reading A) (n : Refusal) : Type 0 where
  stops : (s : Reading) → o ≡ stop n s → Stops o n

-- ---- a length

-- the work m gives n, and the byte after stands at next, whatever is charged
pub record LengthTo (f : List ℕ) (end at : ℕ) (m : M Reading ℕ) (n next : ℕ) : Type 0 where
  pub after : at ≤ next
  pub within : next ≤ end
  pub is : (u : ℕ) → m (left_from f at end u) ≡ done n (left_from f next end u)

-- the work m is refused, whatever is charged
pub record LengthStops (f : List ℕ) (end at : ℕ) (m : M Reading ℕ) (n : Refusal) : Type 0 where
  pub is : (u : ℕ) → Stops (m (left_from f at end u)) n

unfoldable pub LengthOk : List ℕ → ℕ → ℕ → M Reading ℕ → Result (ℕ × ℕ) Refusal → Type 0
LengthOk f end at m (Ok (n, next)) = LengthTo f end at m n next
LengthOk f end at m (Err n) = LengthStops f end at m n
