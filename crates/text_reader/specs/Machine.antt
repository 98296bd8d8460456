-- The machine over tokens: what is wanted next, what is wanted after each open list (the innermost first), and the form so far.
use Rattle.std.specs.Prelude.{ℕ, List, [], ◌∷◌, ◌++◌}
use Rattle.std.proofs.Math.Option.{none, some}
use Rattle.meaning.specs.Tree.{atom}
use Rattle.refusals.specs.declared.Refusal.TheVariants.{NoParse}
use Rattle.meaning.specs.Form.{write_atom}
use Rattle.meaning.specs.Meter.{Out, done, stop}
use Rattle.notation.specs.declared.Place.{Place}
use Rattle.notation.specs.declared.Place.TheVariants.{Operator, Code, Data}
use Rattle.notation.specs.Words.{word_bytes}
use Rattle.notation.specs.Texts.{head_in, after}
use Rattle.notation.specs.Grammar.{Token, opening, closing, dot, wrong, word, quoted}
use Rattle.text_reader.specs.declared.machine.Frame.{Frame}
use Rattle.text_reader.specs.declared.machine.Frame.TheVariants.{Outermost, BeforeCode, BeforeData, AfterDot}
use Rattle.text_reader.specs.declared.machine.Want.{Want}
use Rattle.text_reader.specs.declared.machine.Want.TheVariants.{Whole, First, More, Last, Bracket, Nothing}

-- what comes after a token: what is wanted, the open lists, the form; or no text has it there
pub data Next : Type 0 where
  on : Want → List Frame → List ℕ → Next
  no : Next

-- what is wanted once a list is closed
unfoldable pub want_of : Frame → Want
want_of Outermost = Nothing
want_of BeforeCode = More Code
want_of BeforeData = More Data
want_of AfterDot = Bracket

-- a part at a place that is a list
abbrev pub back : Place → Frame
back Operator = BeforeCode
back Code = BeforeCode
back Data = BeforeData

-- a part of a list is the left part of a pair: ff stands before it
unfoldable pub on_opening : Want → List Frame → List ℕ → Next
on_opening Whole st f = on (First Operator) (Outermost ∷ st) f
on_opening (First p) st f = on (First (head_in p)) (back p ∷ st) (f ++ (0xff ∷ []))
on_opening (More p) st f = on (First (head_in p)) (back p ∷ st) (f ++ (0xff ∷ []))
on_opening (Last p) st f = on (First p) (AfterDot ∷ st) f
on_opening Bracket st f = no
on_opening Nothing st f = no

-- the innermost list is closed
unfoldable pub pop : List Frame → List ℕ → Next
unfolding want_of
pop [] f = no
pop (k ∷ st) f = on (want_of k) st f

-- a list ends in nil, but for one that had its last part after a dot
unfoldable pub on_closing : Want → List Frame → List ℕ → Next
unfolding pop
on_closing (First p) st f = pop st (f ++ (0x80 ∷ []))
on_closing (More p) st f = pop st (f ++ (0x80 ∷ []))
on_closing Bracket st f = pop st f
on_closing Whole st f = no
on_closing (Last p) st f = no
on_closing Nothing st f = no

-- a dot, after a part only
unfoldable pub on_dot : Want → List Frame → List ℕ → Next
on_dot (More p) st f = on (Last p) st f
on_dot (First p) st f = no
on_dot Bracket st f = no
on_dot Whole st f = no
on_dot (Last p) st f = no
on_dot Nothing st f = no

-- an atom
unfoldable pub on_atom : Want → List ℕ → List Frame → List ℕ → Next
unfolding after write_atom
on_atom Whole b st f = on Nothing st (f ++ write_atom b)
on_atom (First p) b st f = on (More (after p (atom b))) st ((f ++ (0xff ∷ [])) ++ write_atom b)
on_atom (More p) b st f = on (More (after p (atom b))) st ((f ++ (0xff ∷ [])) ++ write_atom b)
on_atom (Last p) b st f = on Bracket st (f ++ write_atom b)
on_atom Bracket b st f = no
on_atom Nothing b st f = no

-- the place at which a word would stand (where none is wanted, at any)
abbrev pub place_of : Want → Place
place_of Whole = Code
place_of (First p) = p
place_of (More p) = p
place_of (Last p) = p
place_of Bracket = Data
place_of Nothing = Data

-- a word, as the atom that it spells
unfoldable pub on_word : Want → List ℕ → List Frame → List ℕ → Next
unfolding word_bytes on_atom
on_word w v st f = elim (word_bytes (place_of w) v) [ some b ↦ on_atom w b st f | none ↦ no ]

-- any token
unfoldable pub on_token : Token → Want → List Frame → List ℕ → Next
unfolding on_opening on_closing on_dot on_word on_atom
on_token opening w st f = on_opening w st f
on_token closing w st f = on_closing w st f
on_token dot w st f = on_dot w st f
on_token (word v) w st f = on_word w v st f
on_token (quoted b) w st f = on_atom w b st f
on_token wrong w st f = no

-- the text's end, where nothing is wanted
unfoldable pub at_end : Want → List ℕ → Out (List Token) (List ℕ)
at_end Nothing f = done f []
at_end Whole f = stop NoParse []
at_end (First p) f = stop NoParse []
at_end (More p) f = stop NoParse []
at_end (Last p) f = stop NoParse []
at_end Bracket f = stop NoParse []

-- all tokens, and the form at their end; or the token that may not stand there, and those after it
unfoldable pub run : List Token → Want → List Frame → List ℕ → Out (List Token) (List ℕ)
unfolding on_token at_end
run [] w st f = at_end w f
run (t ∷ ts) w st f = elim (on_token t w st f) [ on w' st' f' ↦ run ts w' st' f' | no ↦ stop NoParse (t ∷ ts) ]
