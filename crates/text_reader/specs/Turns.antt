-- What the machine's functions promise: the definition's step, with the open lists in the frames and the form so far in the form.
use Rattle.std.specs.Prelude.{ℕ, zero, suc, ◌+◌, ◌≤◌, ◌<◌, ◌≡◌, List, [], ◌∷◌, Bool, true, false, Option, Some, None, length, get_or}
use Rattle.meaning.specs.Limits.{form_limit}
use Rattle.refusals.specs.declared.Refusal.TheVariants.{NoParse as not-parsed}
use Rattle.meaning.specs.Meter.{Out, done, stop}
use Rattle.notation.specs.declared.Place.TheVariants.{Operator}
use Rattle.notation.specs.Texts.{head_in, place_after}
use Rattle.notation.specs.Grammar.{Token}
use Rattle.text_reader.specs.declared.machine.Frame.{Frame}
use Rattle.text_reader.specs.declared.machine.Frame.TheVariants.{Outermost, AfterDot}
use Rattle.text_reader.specs.declared.machine.Want.{Want}
use Rattle.text_reader.specs.declared.machine.Want.TheVariants.{Whole, First, More, Last, Bracket, Nothing}
use Rattle.text_reader.specs.declared.machine.Reading.{Reading}
use Rattle.text_reader.specs.declared.machine.Turn.{Turn}
use Rattle.text_reader.specs.declared.machine.Turn.TheVariants.{Goes, Done, Fails}
use Rattle.text_reader.specs.declared.machine.Opened.{Opened}
use Rattle.text_reader.specs.declared.machine.Wanted.{Wanted}
use Rattle.text_reader.specs.Forms.{Within, Emitted}
use Rattle.text_reader.specs.Tokens.{signs_at, OneToken}
use Rattle.text_reader.specs.Machine.{Next, on, no, back, pop, on_atom, on_word, run}

-- ---- what a bracket opens, and what an atom is followed by

-- what a bracket opens: what is wanted in it, what is wanted after it, and whether it is the left part of a pair
abbrev pub opening_of : Want → Option Opened
opening_of Whole = Some (record { within = First Operator; after = Outermost; pair = false })
opening_of (First p) = Some (record { within = First (head_in p); after = back p; pair = true })
opening_of (More p) = Some (record { within = First (head_in p); after = back p; pair = true })
opening_of (Last p) = Some (record { within = First p; after = AfterDot; pair = false })
opening_of Bracket = None
opening_of Nothing = None

-- what is wanted after an atom that is the byte 1 (true), or another, and whether it is the left part of a pair
abbrev pub wanted_after : Want → Bool → Option Wanted
wanted_after Whole one = Some (record { want = Nothing; pair = false })
wanted_after (First p) one = Some (record { want = More (place_after p one); pair = true })
wanted_after (More p) one = Some (record { want = More (place_after p one); pair = true })
wanted_after (Last p) one = Some (record { want = Bracket; pair = false })
wanted_after Bracket one = None
wanted_after Nothing one = None

-- ---- steps

-- the open lists, the innermost first
unfoldable pub stack_in : List Frame → ℕ → List Frame
stack_in fr zero = []
stack_in fr (suc d) = get_or fr d Outermost ∷ stack_in fr d

-- the definition comes to what q says, with e in the form
pub data Leads (o : Next) (fr : List Frame) (f : List ℕ) (q : Reading) : Type 0 where
  leads : (e : List ℕ) → Emitted e f q.grown → o ≡ on q.want (stack_in fr q.depth) e → Leads o fr f q

-- the step k leads from r to q, and the next token stands at next
pub record Moved (k : Want → List Frame → List ℕ → Next) (fr fr' : List Frame) (f f' : List ℕ) (r : Reading) (next : ℕ) (q : Reading) : Type 0 where
  pub at : q.at ≡ next
  pub deep : q.depth ≤ r.depth + 1
  pub within : Within q.grown
  pub frames : length fr' ≡ length fr
  pub long : length f' ≡ length f
  pub so : (e : List ℕ) → Emitted e f r.grown → Leads (k r.want (stack_in fr r.depth) e) fr' f' q

-- the step k leads nowhere
pub record Stuck (k : Want → List Frame → List ℕ → Next) (fr : List Frame) (r : Reading) : Type 0 where
  pub so : (e : List ℕ) → k r.want (stack_in fr r.depth) e ≡ no

unfoldable pub StepOk : (Want → List Frame → List ℕ → Next) → List Frame → List Frame → List ℕ → List ℕ → Reading → ℕ → Option Reading → Type 0
StepOk k fr fr' f f' r next (Some q) = Moved k fr fr' f f' r next q
StepOk k fr fr' f f' r next None = Stuck k fr r

-- a step that looks at no open list
pub data LeadsOn (o : Next) (st : List Frame) (f : List ℕ) (q : Reading) : Type 0 where
  leads_on : (e : List ℕ) → Emitted e f q.grown → o ≡ on q.want st e → LeadsOn o st f q

pub record Passed (k : Want → List Frame → List ℕ → Next) (f f' : List ℕ) (r : Reading) (next : ℕ) (q : Reading) : Type 0 where
  pub at : q.at ≡ next
  pub deep : q.depth ≡ r.depth
  pub within : Within q.grown
  pub long : length f' ≡ length f
  pub so : (st : List Frame) (e : List ℕ) → Emitted e f r.grown → LeadsOn (k r.want st e) st f' q

pub record NotPassed (k : Want → List Frame → List ℕ → Next) (r : Reading) : Type 0 where
  pub so : (st : List Frame) (e : List ℕ) → k r.want st e ≡ no

unfoldable pub PassOk : (Want → List Frame → List ℕ → Next) → List ℕ → List ℕ → Reading → ℕ → Option Reading → Type 0
PassOk k f f' r next (Some q) = Passed k f f' r next q
PassOk k f f' r next None = NotPassed k r

-- an atom of these bytes
unfoldable pub AtomOk : List ℕ → List ℕ → List ℕ → Reading → ℕ → Option Reading → Type 0
unfolding PassOk on_atom
AtomOk b f f' r next s = PassOk (λ w. on_atom w b) f f' r next s

-- an atom of any bytes that are more than a form may have, in any form
pub record LongOk (r : Reading) (next : ℕ) (s : Option Reading) : Type 0 where
  pub so : (b f : List ℕ) → form_limit < length b → AtomOk b f f r next s

-- a word
unfoldable pub WordOk : List ℕ → List ℕ → List ℕ → Reading → ℕ → Option Reading → Type 0
unfolding PassOk on_word
WordOk v f f' r next s = PassOk (λ w. on_word w v) f f' r next s

-- the innermost list is closed, with g in the form
pub record Popped (fr : List Frame) (depth : ℕ) (g : Option ℕ) (next : ℕ) (q : Reading) : Type 0 where
  pub at : q.at ≡ next
  pub deep : q.depth ≤ depth
  pub grown : q.grown ≡ g
  pub so : (e : List ℕ) → pop (stack_in fr depth) e ≡ on q.want (stack_in fr q.depth) e

pub record NotPopped (fr : List Frame) (depth : ℕ) : Type 0 where
  pub so : (e : List ℕ) → pop (stack_in fr depth) e ≡ no

unfoldable pub PopOk : List Frame → ℕ → Option ℕ → ℕ → Option Reading → Type 0
PopOk fr depth g next (Some q) = Popped fr depth g next q
PopOk fr depth g next None = NotPopped fr depth

-- after a dot
abbrev pub dotted : Want → Reading → ℕ → Option Reading
dotted (More p) r next = Some (record { at = next; want = Last p; depth = r.depth; grown = r.grown })
dotted (First p) r next = None
dotted Bracket r next = None
dotted Whole r next = None
dotted (Last p) r next = None
dotted Nothing r next = None

-- ---- turns: a token of the text

-- at the text's end
abbrev pub end_turn : Want → Option ℕ → Turn
end_turn Nothing g = Done g
end_turn Whole g = Fails
end_turn (First p) g = Fails
end_turn (More p) g = Fails
end_turn (Last p) g = Fails
end_turn Bracket g = Fails

-- a step as a turn
abbrev pub turn_of : Option Reading → Turn
turn_of (Some q) = Goes q
turn_of None = Fails

-- what all tokens from r on come to, with e in the form
abbrev pub from_here : List ℕ → List Frame → Reading → List ℕ → Out (List Token) (List ℕ)
from_here text fr r e = run (signs_at text r.at) r.want (stack_in fr r.depth) e

-- the frames have a place for every list that can still be opened, and the form room for a form
pub record Fair (text : List ℕ) (fr : List Frame) (f : List ℕ) (r : Reading) : Type 0 where
  pub at : r.at ≤ length text
  pub deep : r.depth ≤ r.at
  pub short : length text ≤ length fr
  pub room : form_limit ≤ length f
  pub within : Within r.grown

-- o is what is come to from q on
pub data Comes (o : Out (List Token) (List ℕ)) (text : List ℕ) (fr : List Frame) (f : List ℕ) (q : Reading) : Type 0 where
  comes : (e : List ℕ) → Emitted e f q.grown → o ≡ from_here text fr q e → Comes o text fr f q

pub record GoesOn (text : List ℕ) (fr fr' : List Frame) (f f' : List ℕ) (r q : Reading) : Type 0 where
  pub fair : Fair text fr' f' q
  pub later : r.at < q.at
  pub one : OneToken text r.at q.at
  pub so : (e : List ℕ) → Emitted e f r.grown → Comes (from_here text fr r e) text fr' f' q

-- the text ends well
pub record EndsWell (text : List ℕ) (fr : List Frame) (f f' : List ℕ) (r : Reading) (g : Option ℕ) : Type 0 where
  pub so : (e : List ℕ) → Emitted e f r.grown → (from_here text fr r e ≡ done e []) × Emitted e f' g

-- the next token, or the end, may not stand there
pub record NoText (text : List ℕ) (fr : List Frame) (r : Reading) : Type 0 where
  pub so : (e : List ℕ) → from_here text fr r e ≡ stop not-parsed (signs_at text r.at)

unfoldable pub TurnOk : List ℕ → List Frame → List Frame → List ℕ → List ℕ → Reading → Turn → Type 0
TurnOk text fr fr' f f' r (Goes q) = GoesOn text fr fr' f f' r q
TurnOk text fr fr' f f' r (Done g) = EndsWell text fr f f' r g
TurnOk text fr fr' f f' r Fails = NoText text fr r
