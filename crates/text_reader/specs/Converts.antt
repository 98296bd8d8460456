-- What a text is promised to be converted to: bytes that are read as the text is, or the refusal of its reading.
use Rattle.std.specs.Prelude.{ℕ, ◌≤◌, ◌<◌, ◌≡◌, List, [], ◌++◌, Result, Ok, Err, Some, None, length, take}
use Rattle.std.specs.Prelude.{Option as Maybe}
use Rattle.std.proofs.Math.Option.{Option, none, some}
use Rattle.refusals.specs.declared.Refusal.{Refusal}
use Rattle.refusals.specs.declared.Refusal.TheVariants.{NoParse, TextLong}
use Rattle.meaning.specs.Limits.{form_limit}
use Rattle.meaning.specs.Form.{read_form}
use Rattle.meaning.specs.Meter.{Out, done, stop}
use Rattle.form.specs.Spans as spans
use Rattle.notation.specs.Texts.{text_limit}
use Rattle.notation.specs.Grammar.{Token, Spot, read_text}
use Rattle.notation.specs.Faults.{fault}
use Rattle.text_reader.specs.declared.machine.Reading.{Reading}
use Rattle.text_reader.specs.declared.machine.Want.TheVariants.{Whole}
use Rattle.text_reader.specs.Forms.{Emitted}
use Rattle.text_reader.specs.Tokens.{spots_at, signs_at}
use Rattle.text_reader.specs.Machine.{run}

-- the first n bytes of f are read as the text is, from any units on
pub record Converts (text f : List ℕ) (n : ℕ) : Type 0 where
  pub within : n ≤ form_limit
  pub is : (u : ℕ) → read_text text u ≡ read_form (take n f) u

-- reading the text is refused with e, from any units on
pub record NotConverted (text : List ℕ) (e : Refusal) : Type 0 where
  pub is : (u : ℕ) → spans.Stops (read_text text u) e

unfoldable pub ConvertedOk : List ℕ → List ℕ → Result ℕ Refusal → Type 0
ConvertedOk text f (Ok n) = Converts text f n
ConvertedOk text f (Err e) = NotConverted text e

-- ---- where a text stops

-- the text is short enough to be looked at, and this is its fault
pub record Located (text : List ℕ) (o : Option ℕ) : Type 0 where
  pub short : length text ≤ text_limit
  pub is : fault text ≡ o

-- the text is too long, and that is what it is refused with
pub record Overlong (text : List ℕ) (e : Refusal) : Type 0 where
  pub long : text_limit < length text
  pub is : e ≡ TextLong

unfoldable pub FaultOk : List ℕ → Result (Maybe ℕ) Refusal → Type 0
FaultOk text (Ok (Some p)) = Located text (some p)
FaultOk text (Ok None) = Located text none
FaultOk text (Err e) = Overlong text e

-- ---- the machine's first state, its end, and what comes of it

-- what the machine comes to on a text
abbrev pub all_of : List ℕ → Out (List Token) (List ℕ)
all_of text = run (signs_at text 0) Whole [] []

-- e is the whole form, and was emitted into f (data, as `Leads` is)
pub data Ends (text f : List ℕ) (g : Maybe ℕ) : Type 0 where
  ends : (e : List ℕ) → all_of text ≡ done e [] → Emitted e f g → Ends text f g

-- the tokens of a text are some, and those from a place on
pub data Reached (text : List ℕ) (at : ℕ) : Type 0 where
  reached : (before : List Spot) → spots_at text 0 ≡ before ++ spots_at text at → Reached text at

-- the next token from at on, or the end, may not stand there
pub record StopsAt (text : List ℕ) (at : ℕ) : Type 0 where
  pub within : at ≤ length text
  pub before : Reached text at
  pub is : all_of text ≡ stop NoParse (signs_at text at)

-- nothing more is wanted, with a form; or the next token from a place on may not stand there
unfoldable pub EndingOk : List ℕ → List ℕ → Result (Maybe ℕ) ℕ → Type 0
EndingOk text f (Ok g) = Ends text f g
EndingOk text f (Err at) = StopsAt text at

abbrev pub begun : Reading
begun = record { at = 0; want = Whole; depth = 0; grown = Some 0 }
