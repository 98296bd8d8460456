-- A line that is read in parts.
use Rattle.std.specs.Prelude.{ℕ, ◌+◌, ◌*◌, ◌≤◌, ◌<◌, ◌≡◌, Option, Some, None, IfSome, Bool, true, false, List, [], ◌∷◌, ◌++◌, eqb, ltb, length, take, drop}
use Rattle.lines.specs.declared.read.Got.{Got}
use Rattle.lines.specs.declared.read.Got.TheVariants.{Form, Bad, End}
use Rattle.lines.specs.declared.read.Spelling.{Spelling}
use Rattle.lines.specs.declared.read.Spelling.TheVariants.{Hex, Raw}
use Rattle.lines.specs.declared.read.Line.{Line}
use Rattle.lines.specs.declared.read.Lines.{Lines}
use Rattle.lines.specs.declared.read.Part.{Part}
use Rattle.io.specs.Counts.{IsPrefixLen}
use Rattle.lines.specs.Hex.{digit_of}
use Rattle.lines.specs.Text.{Waits, Adds, no_line}

-- a line so far: the bytes kept, the digit that waits for its second, whether a byte was met that is no digit
pub record Seen : Type 0 where
  pub bytes : List ℕ
  pub half : Option ℕ
  pub bad : Bool

-- what stands in the form and in the code's record of a line
abbrev pub shown : List ℕ → Line → Seen
shown form l = record { bytes = take l.n form; half = l.half; bad = l.bad }

-- a byte is kept while there are fewer than `most`
unfoldable pub keep : ℕ → List ℕ → ℕ → List ℕ
keep most bs x = elim (ltb (length bs) most) [ true ↦ bs ++ (x ∷ []) | false ↦ bs ]

-- one byte more of the line: as it stands; or a hex digit, two of which are a byte
unfoldable pub more : Spelling → ℕ → Seen → ℕ → Seen
unfolding digit_of keep
more Raw most s x = record { bytes = keep most s.bytes x; half = s.half; bad = s.bad }
more Hex most s x =
    elim (digit_of x) [
      | Some d ↦ elim s.half [
        | Some h ↦ record { bytes = keep most s.bytes (h * 16 + d); half = None; bad = s.bad }
        | None ↦ record { bytes = s.bytes; half = Some d; bad = s.bad }
      ]
      | None ↦ record { bytes = s.bytes; half = s.half; bad = true }
    ]

-- what a line is that has ended: a form where no other byte was met and no digit waits
unfoldable pub judged : Option ℕ → Bool → Got
judged None false = Form
judged None true = Bad
judged (Some h) bad = Bad

-- the line after some bytes, the place after these, and whether a newline ended it
pub record Walked : Type 0 where
  pub seen : Seen
  pub at : ℕ
  pub ended : Bool

abbrev pub walked : List ℕ → Part → Walked
walked form p = record { seen = shown form p.line; at = p.at; ended = p.ended }

-- the bytes from a place on, up to a newline or their end
unfoldable pub walk : Spelling → ℕ → Seen → ℕ → List ℕ → Walked
unfolding more
walk how most s at [] = record { seen = s; at = at; ended = false }
walk how most s at (x ∷ xs) =
    elim (eqb x 10) [
      | true ↦ record { seen = s; at = at + 1; ended = true }
      | false ↦ walk how most (more how most s x) (at + 1) xs
    ]

-- what one byte more leaves; a digit that waits is below 16
pub record Took (how : Spelling) (x : ℕ) (form form' : List ℕ) (l r : Line) : Type 0 where
  pub shows : shown form' r ≡ more how (length form) (shown form l) x
  pub within : r.n ≤ length form'
  pub small : IfSome r.half (λ h. h < 16)

-- what bytes from a place on leave
pub record Passed (how : Spelling) (bytes : List ℕ) (from : ℕ) (form form' : List ℕ) (l : Line) (p : Part) : Type 0 where
  pub shows : walked form' p ≡ walk how (length form) (shown form l) from (drop from bytes)
  pub within : p.line.n ≤ length form'
  pub small : IfSome p.line.half (λ h. h < 16)

-- the next line or the next two: the bytes stand within the forms, and what waited still waits or was written
pub record Came (forms : List ℕ) (s r : Lines) : Type 0 where
  pub fits : IsPrefixLen r.n forms
  pub first : r.first ≤ r.n
  pub waits : Waits s.put r.put

-- what is printed for what came: the reply to a form; `no line` for any other line; nothing where the input had ended
unfoldable pub line_for : Got → List ℕ → List ℕ
unfolding no_line
line_for Form reply = reply
line_for Bad reply = no_line
line_for End reply = []

-- a turn of a program, whose reply to bytes of which so many are the first line's is `reply`: its line waits, whole, and nothing else new
pub record Turned (reply : List ℕ → ℕ → List ℕ) (forms text text' : List ℕ) (s r : Lines) : Type 0 where
  pub adds : Adds (line_for r.got (reply (take r.n forms) r.first)) (take s.put text) (take r.put text')
  pub within : r.put ≤ length text'
