-- What the scanner promises: the next token of a text, in the definition's words.
use Rattle.std.specs.Prelude.{ℕ, ◌+◌, ◌-◌, ◌≤◌, ◌<◌, ◌≡◌, List, [], ◌∷◌, ◌++◌, Bool, true, false, Result, Ok, Err, length, take, drop, get_or}
use Rattle.notation.specs.declared.Kind.{Kind}
use Rattle.notation.specs.declared.Kind.TheVariants.{Blank, Opens, Closes, Quotes, Plain}
use Rattle.notation.specs.Grammar.{opening, closing, dot, wrong, word, quoted, Spot, spot, kind_of, ending, spots_from, quoted_from, signs}
use Rattle.notation.specs.Grammar.{Token as Sign}
use Rattle.text_reader.specs.declared.scan.Token.{Token}
use Rattle.text_reader.specs.declared.scan.Token.TheVariants.{End, Open, Close, Dot, Word, Quoted, Wrong}

-- the bytes of a text from one place to another
abbrev pub between : List ℕ → ℕ → ℕ → List ℕ
between text from to = take (to - from) (drop from text)

-- the tokens from a place on
abbrev pub spots_at : List ℕ → ℕ → List Spot
spots_at text at = spots_from (drop at text) at []

abbrev pub signs_at : List ℕ → ℕ → List Sign
signs_at text at = signs (spots_at text at)

-- one token stands between at and next, and separators before it
pub data OneToken (text : List ℕ) (at next : ℕ) : Type 0 where
  one_token : (s : Spot) → spots_at text at ≡ s ∷ spots_at text next → OneToken text at next

-- a byte that belongs to a word
unfoldable pub is_plain : Kind → Bool
is_plain Plain = true
is_plain Blank = false
is_plain Opens = false
is_plain Closes = false
is_plain Quotes = false

-- a byte that only separates
unfoldable pub is_blank : Kind → Bool
is_blank Blank = true
is_blank Plain = false
is_blank Opens = false
is_blank Closes = false
is_blank Quotes = false

-- ---- the next token from at on

-- a token of one sign, one byte long, and what follows it stands from next on
pub record Signed (text : List ℕ) (at next : ℕ) (t : Sign) : Type 0 where
  pub after : at < next
  pub within : next ≤ length text
  pub is : spots_at text at ≡ spot t (next - 1) ∷ spots_at text next

-- the word between from and to
pub record Worded (text : List ℕ) (at from to : ℕ) : Type 0 where
  pub after : at ≤ from
  pub some : from < to
  pub within : to ≤ length text
  pub is : spots_at text at ≡ spot (word (between text from to)) from ∷ spots_at text to

-- the text in quotes between from and to, where the second quote stands
pub record InQuotes (text : List ℕ) (at from to : ℕ) : Type 0 where
  pub after : at < from
  pub upto : from ≤ to
  pub within : to < length text
  pub is : spots_at text at ≡ spot (quoted (between text from to)) (from - 1) ∷ spots_at text (to + 1)

-- no token is left
pub record Ended (text : List ℕ) (at : ℕ) : Type 0 where
  pub is : spots_at text at ≡ []

-- what no text may have
pub record Broken (text : List ℕ) (at i : ℕ) : Type 0 where
  pub is : spots_at text at ≡ spot wrong i ∷ []

unfoldable pub TokenOk : List ℕ → ℕ → Token → Type 0
TokenOk text at End = Ended text at
TokenOk text at (Open next) = Signed text at next opening
TokenOk text at (Close next) = Signed text at next closing
TokenOk text at (Dot next) = Signed text at next dot
TokenOk text at (Word from to) = Worded text at from to
TokenOk text at (Quoted from to) = InQuotes text at from to
TokenOk text at (Wrong i) = Broken text at i

-- ---- what its parts promise

-- only separators stand between at and r, and none at r
pub record Skipped (text : List ℕ) (at r : ℕ) : Type 0 where
  pub after : at ≤ r
  pub within : r ≤ length text
  pub is : spots_at text at ≡ spots_at text r
  pub stops : r < length text → is_blank (kind_of (get_or text r 0)) ≡ false

-- a word that goes on at at ends at r, whatever was read of it before
pub record WordEnds (text : List ℕ) (at r : ℕ) : Type 0 where
  pub after : at ≤ r
  pub within : r ≤ length text
  pub is : (w : List ℕ) → spots_from (drop at text) at w ≡ ending (w ++ between text at r) r (spots_at text r)

-- a quote at q whose text begins at at is closed at r
pub record QuoteEnds (text : List ℕ) (at r : ℕ) : Type 0 where
  pub after : at ≤ r
  pub within : r < length text
  pub is : (q : ℕ) → quoted_from (drop at text) at q [] ≡ spot (quoted (between text at r)) q ∷ spots_at text (r + 1)

-- at i stands what may not stand after the quote at q, or i is q, and it is never closed
pub record QuoteWrong (text : List ℕ) (q i : ℕ) : Type 0 where
  pub is : quoted_from (drop (q + 1) text) (q + 1) q [] ≡ spot wrong i ∷ []

-- where the quote at q is closed, or the place of what is wrong
unfoldable pub ClosedOk : List ℕ → ℕ → Result ℕ ℕ → Type 0
ClosedOk text q (Ok r) = QuoteEnds text (q + 1) r
ClosedOk text q (Err i) = QuoteWrong text q i

-- the bytes between at and to end there, as a word or a dot
pub record Whole (text : List ℕ) (at to : ℕ) : Type 0 where
  pub after : at < to
  pub within : to ≤ length text
  pub is : spots_at text at ≡ ending (between text at to) to (spots_at text to)
