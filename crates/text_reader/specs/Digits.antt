-- What the code says that a part of a word spells, in the definition's words.
use Rattle.std.specs.Prelude.{ℕ, ◌+◌, ◌*◌, ◌≤◌, ◌<◌, ◌≡◌, List, [], ◌∷◌, Bool, true, false, Some, None, length, drop}
use Rattle.std.specs.Prelude.{Option as Maybe}
use Rattle.std.proofs.Math.Option.{Option, none, some}
use Rattle.notation.specs.Words.{names, numbered, hex_value, hex_bytes, hex_word, signed_word, and_then}

-- the code's number, or none
unfoldable pub found : Maybe ℕ → Option ℕ
found (Some n) = some n
found None = none

-- an operator's number, as an atom
unfoldable pub operator : Maybe ℕ → Option (List ℕ)
operator (Some k) = some (k ∷ [])
operator None = none

-- the operator that one byte names
unfoldable pub named_by : ℕ → Option (List ℕ)
unfolding numbered and_then
named_by c = and_then (numbered c 1 names) λ k. some (k ∷ [])

-- the byte of two digits
unfoldable pub hex_pair : ℕ → ℕ → Option ℕ
unfolding hex_value and_then
hex_pair c d = and_then (hex_value c) λ h. and_then (hex_value d) λ l. some (16 * h + l)

-- the digits after 0x, where a word begins so
unfoldable pub after_0x : Bool → List ℕ → Option (List ℕ)
unfolding hex_bytes
after_0x true w = hex_bytes (drop 2 w)
after_0x false w = none

-- whether a word begins with 0x and has something after it; one that does is no decimal number
pub record Begins (w : List ℕ) (r : Bool) : Type 0 where
  pub is : hex_word w ≡ after_0x r w
  pub long : r ≡ true → 3 ≤ length w
  pub alone : r ≡ true → signed_word w ≡ none

-- no number, or one that a hex digit may have
unfoldable pub Small : Maybe ℕ → Type 0
Small (Some n) = n < 16
Small None = Unit {0}

-- r is the value of a hex digit, where c is one
pub record Digit (c : ℕ) (r : Maybe ℕ) : Type 0 where
  pub is : hex_value c ≡ found r
  pub small : Small r
