-- What the parts promise of the room: which number stands from an index to its end.
use Rattle.std.specs.Prelude.{ℕ, ◌+◌, ◌-◌, ◌*◌, ◌^◌, ◌≤◌, ◌<◌, ◌≡◌, List, length, drop}
use Rattle.meaning.specs.Number.{number}

-- the bytes from at on are the number v, and the first of them is not 0
pub record Holds (v : ℕ) (s : List ℕ) (at : ℕ) : Type 0 where
  pub within : at ≤ length s
  pub value : number (drop at s) ≡ v
  pub least : at < length s → 256 ^ (length s - (at + 1)) ≤ v

-- m times the number and d more, with what does not fit its bytes
pub record Times (m d : ℕ) (s s' : List ℕ) (at carry : ℕ) : Type 0 where
  pub long : length s' ≡ length s
  pub small : carry < m
  pub value : number (drop at s') + carry * 256 ^ (length s - at) ≡ m * number (drop at s) + d

-- the shortest bytes of n stand before those from at on
pub record Before (n : ℕ) (s s' : List ℕ) (at r : ℕ) : Type 0 where
  pub long : length s' ≡ length s
  pub within : r ≤ at
  pub value : number (drop r s') ≡ n * 256 ^ (length s - at) + number (drop at s)
  pub least : r < at → 256 ^ (at - (r + 1)) ≤ n

-- the room holds v, and keeps its length
pub record Holding (v : ℕ) (s s' : List ℕ) (r : ℕ) : Type 0 where
  pub long : length s' ≡ length s
  pub holds : Holds v s' r

-- and no more than k bytes are taken
pub record Few (v k : ℕ) (s s' : List ℕ) (r : ℕ) : Type 0 where
  pub long : length s' ≡ length s
  pub holds : Holds v s' r
  pub few : length s ≤ r + k

-- the number from at on is one less
pub record Less (s s' : List ℕ) (at : ℕ) : Type 0 where
  pub long : length s' ≡ length s
  pub value : number (drop at s') + 1 ≡ number (drop at s)

-- the same number without a zero in front
pub record Past (s : List ℕ) (at r : ℕ) : Type 0 where
  pub low : at ≤ r
  pub high : r ≤ at + 1
  pub holds : Holds (number (drop at s)) s r

-- the bytes bs stand from r on, and the room keeps its length
pub record Ends (bs s s' : List ℕ) (r : ℕ) : Type 0 where
  pub long : length s' ≡ length s
  pub within : r ≤ length s'
  pub is : drop r s' ≡ bs
