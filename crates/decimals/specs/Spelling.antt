-- What a word is promised to spell: bytes that stand at the room's end, more than a form may have, or nothing.
use Rattle.std.specs.Prelude.{ℕ, ◌+◌, ◌^◌, ◌≤◌, ◌<◌, ◌≡◌, List, length, drop}
use Rattle.std.specs.Prelude as rust
use Rattle.std.specs.Prelude.{Bool, cond, Some, None}
use Rattle.std.proofs.Math.Option.{Option, none, some}
use Rattle.meaning.specs.Limits.{form_limit}
use Rattle.meaning.specs.Number.{plus, minus}
use Rattle.notation.specs.Words.{and_then, decimal, signed_bytes}
use Rattle.decimals.specs.declared.Spelled.{Spelled}
use Rattle.decimals.specs.declared.Spelled.TheVariants.{From, Long, Nothing}
use Rattle.decimals.specs.Places.{Few}

-- ---- a number of digits

-- v has more than k bytes
pub data Large (k v : ℕ) : Type 0 where
  large : 256 ^ k ≤ v → Large k v

unfoldable pub CountedOk : ℕ → ℕ → List ℕ → List ℕ → rust.Option ℕ → Type 0
CountedOk v k s s' (Some at) = Few v k s s' at
CountedOk v k s s' None = Large (form_limit + 1) v

-- v in no more than k bytes, and the room keeps its length
pub record Counting (v k : ℕ) (s s' : List ℕ) (r : rust.Option ℕ) : Type 0 where
  pub long : length s' ≡ length s
  pub ok : CountedOk v k s s' r

-- ---- a word

-- the shortest signed bytes of the number that digits say, or of minus this number
unfoldable pub digits_spelt : Bool → List ℕ → Option (List ℕ)
unfolding and_then decimal signed_bytes
digits_spelt below w = and_then (decimal w) λ n. some (signed_bytes (cond below (minus n) (plus n)))

-- the definition gives the bytes from at on
pub record Spells (o : Option (List ℕ)) (s' : List ℕ) (at : ℕ) : Type 0 where
  pub within : at ≤ length s'
  pub is : o ≡ some (drop at s')

-- the definition gives more bytes than a form may have
pub data SpellsLong (o : Option (List ℕ)) : Type 0 where
  spells_long : (b : List ℕ) → o ≡ some b → form_limit < length b → SpellsLong o

unfoldable pub SpelledOk : Option (List ℕ) → List ℕ → Spelled → Type 0
SpelledOk o s' (From at) = Spells o s' at
SpelledOk o s' Long = SpellsLong o
SpelledOk o s' Nothing = o ≡ none

-- and the room keeps its length
pub record Spelling (o : Option (List ℕ)) (s s' : List ℕ) (r : Spelled) : Type 0 where
  pub long : length s' ≡ length s
  pub ok : SpelledOk o s' r
