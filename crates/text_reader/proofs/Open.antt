-- The machine never stands where no text can be gone on with: from every state that it comes to, closing what is open ends well. Assumes nothing.
use Prim.Native.Nat.{ℕ, ◌+◌}
use mathlib.Core.Path.{◌≡◌, refl, ap, subst}
use mathlib.Core.List.{List, [], ◌∷◌, ◌++◌}
use mathlib.Core.Option.{Option, none, some}
use native.Mathlib.Omega.{arith}
use lib.ListN.{length, length-append}
use Rattle.refusals.specs.declared.Refusal.{Refusal}
use Rattle.refusals.specs.declared.Refusal.TheVariants.{NoParse}
use Rattle.meaning.specs.Meter.{Out, done, stop}
use Rattle.notation.specs.declared.Place.{Place}
use Rattle.notation.specs.declared.Place.TheVariants.{Operator, Code, Data}
use Rattle.notation.specs.Words.{word_bytes}
use Rattle.notation.specs.Grammar.{Token, opening, closing, dot, wrong, word, quoted}
use Rattle.text_reader.specs.declared.machine.Frame.{Frame}
use Rattle.text_reader.specs.declared.machine.Frame.TheVariants.{Outermost, BeforeCode, BeforeData, AfterDot}
use Rattle.text_reader.specs.declared.machine.Want.{Want}
use Rattle.text_reader.specs.declared.machine.Want.TheVariants.{Whole, First, More, Last, Bracket, Nothing}
use Rattle.text_reader.specs.Machine.{Next, on, no, want_of, back, on_opening, pop, on_closing, on_dot, on_atom, place_of, on_word, on_token, at_end, run}

-- ---- states

-- the open lists: one is the outermost, and no other
unfoldable Stack : List Frame → Type 0
Stack [] = ⊥
Stack (k ∷ []) = k ≡ Outermost
Stack (k ∷ j ∷ st) = (k ≡ Outermost → ⊥) × Stack (j ∷ st)

-- a list is open exactly where something of one is wanted
unfoldable pub Good : Want → List Frame → Type 0
unfolding Stack
Good Whole st = st ≡ []
Good Nothing st = st ≡ []
Good (First p) st = Stack st
Good (More p) st = Stack st
Good (Last p) st = Stack st
Good Bracket st = Stack st

unfoldable GoodNext : Next → Type 0
unfolding Good
GoodNext no = Unit {0}
GoodNext (on w st f) = Good w st

-- ---- a token leads from one to another

deeper : (k : Frame) (st : List Frame) → (k ≡ Outermost → ⊥) → Stack st → Stack (k ∷ st)
unfolding Stack
deeper k [] h s = absurd s
deeper k (j ∷ st) h s = (h, s)

back_inner : (p : Place) → back p ≡ Outermost → ⊥
back_inner Operator e = cc
back_inner Code e = cc
back_inner Data e = cc

dot_inner : AfterDot ≡ Outermost → ⊥
dot_inner e = cc

want_inner : (k j : Frame) (st : List Frame) → (k ≡ Outermost → ⊥) → Stack (j ∷ st) → Good (want_of k) (j ∷ st)
unfolding Good want_of
want_inner Outermost j st h s = absurd (h refl)
want_inner BeforeCode j st h s = s
want_inner BeforeData j st h s = s
want_inner AfterDot j st h s = s

good_pop : (st : List Frame) (f : List ℕ) → Stack st → GoodNext (pop st f)
unfolding Stack GoodNext Good pop want_of
good_pop [] f s = tt
good_pop (k ∷ []) f s = rw s refl
good_pop (k ∷ j ∷ st) f s = want_inner k j st s.0 s.1

good_opening : (w : Want) (st : List Frame) (f : List ℕ) → Good w st → GoodNext (on_opening w st f)
unfolding Stack GoodNext Good on_opening
good_opening Whole st f s = rw s refl
good_opening (First p) st f s = deeper (back p) st (back_inner p) s
good_opening (More p) st f s = deeper (back p) st (back_inner p) s
good_opening (Last p) st f s = deeper AfterDot st dot_inner s
good_opening Bracket st f s = tt
good_opening Nothing st f s = tt

good_closing : (w : Want) (st : List Frame) (f : List ℕ) → Good w st → GoodNext (on_closing w st f)
unfolding GoodNext Good on_closing
good_closing (First p) st f s = good_pop st (f ++ (0x80 ∷ [])) s
good_closing (More p) st f s = good_pop st (f ++ (0x80 ∷ [])) s
good_closing Bracket st f s = good_pop st f s
good_closing Whole st f s = tt
good_closing (Last p) st f s = tt
good_closing Nothing st f s = tt

good_dot : (w : Want) (st : List Frame) (f : List ℕ) → Good w st → GoodNext (on_dot w st f)
unfolding GoodNext Good on_dot
good_dot (More p) st f s = s
good_dot (First p) st f s = tt
good_dot Bracket st f s = tt
good_dot Whole st f s = tt
good_dot (Last p) st f s = tt
good_dot Nothing st f s = tt

good_atom : (w : Want) (b : List ℕ) (st : List Frame) (f : List ℕ) → Good w st → GoodNext (on_atom w b st f)
unfolding GoodNext Good on_atom
good_atom Whole b st f s = s
good_atom (First p) b st f s = s
good_atom (More p) b st f s = s
good_atom (Last p) b st f s = s
good_atom Bracket b st f s = tt
good_atom Nothing b st f s = tt

good_token : (t : Token) (w : Want) (st : List Frame) (f : List ℕ) → Good w st → GoodNext (on_token t w st f)
unfolding on_token on_word GoodNext
good_token opening w st f s = good_opening w st f s
good_token closing w st f s = good_closing w st f s
good_token dot w st f s = good_dot w st f s
good_token wrong w st f s = tt
good_token (quoted b) w st f s = good_atom w b st f s
good_token (word v) w st f s = go (word_bytes (place_of w) v)
  where
    go : (o : Option (List ℕ)) → GoodNext (elim o as (λ x. Next) [ some b ↦ on_atom w b st f | none ↦ no ])
    go (some b) = good_atom w b st f s
    go none = tt

-- ---- closing what is open

-- tokens that end well from a state
pub data EndsWith (w : Want) (st : List Frame) (f : List ℕ) : Type 0 where
  ends_with : (ts : List Token) (e : List ℕ) → run ts w st f ≡ done e [] → EndsWith w st f

-- a token before them
before_them : (t : Token) (w w' : Want) (st st' : List Frame) (f f' : List ℕ) → on_token t w st f ≡ on w' st' f' → EndsWith w' st' f' → EndsWith w st f
unfolding run
before_them t w w' st st' f f' h (ends_with ts e i) = ends_with (t ∷ ts) e (rw (h, run) i)

-- the innermost list is closed, and all around it
close_all : (k : Frame) (st : List Frame) (f : List ℕ) → Stack (k ∷ st) → EndsWith (want_of k) st f
unfolding Stack want_of run at_end on_token on_closing pop
close_all k [] f s = rw s (ends_with [] f refl)
close_all Outermost (j ∷ st) f s = absurd (s.0 refl)
close_all BeforeCode (j ∷ st) f s = before_them closing (More Code) (want_of j) (j ∷ st) st f (f ++ (0x80 ∷ [])) refl (close_all j st (f ++ (0x80 ∷ [])) s.1)
close_all BeforeData (j ∷ st) f s = before_them closing (More Data) (want_of j) (j ∷ st) st f (f ++ (0x80 ∷ [])) refl (close_all j st (f ++ (0x80 ∷ [])) s.1)
close_all AfterDot (j ∷ st) f s = before_them closing Bracket (want_of j) (j ∷ st) st f f refl (close_all j st f s.1)

list_ends : (w : Want) (st : List Frame) (f f' : List ℕ) → Stack st → ((k : Frame) (r : List Frame) → on_closing w (k ∷ r) f ≡ on (want_of k) r f') → EndsWith w st f
unfolding Stack on_token
list_ends w [] f f' s h = absurd s
list_ends w (k ∷ st) f f' s h = before_them closing w (want_of k) (k ∷ st) st f f' (h k st) (close_all k st f' s)

-- from every state
pub can_end : (w : Want) (st : List Frame) (f : List ℕ) → Good w st → EndsWith w st f
unfolding Good run at_end on_token on_opening on_closing pop
can_end Nothing st f s = ends_with [] f refl
can_end Whole st f s = ends_with (opening ∷ closing ∷ []) (f ++ (0x80 ∷ [])) refl
can_end (First p) st f s = list_ends (First p) st f (f ++ (0x80 ∷ [])) s (λ k r. refl)
can_end (More p) st f s = list_ends (More p) st f (f ++ (0x80 ∷ [])) s (λ k r. refl)
can_end Bracket st f s = list_ends Bracket st f f s (λ k r. refl)
can_end (Last p) st f s = before_them opening (Last p) (First p) st (AfterDot ∷ st) f f refl
    (before_them closing (First p) Bracket (AfterDot ∷ st) st f (f ++ (0x80 ∷ [])) refl (list_ends Bracket st (f ++ (0x80 ∷ [])) (f ++ (0x80 ∷ [])) s (λ k r. refl)))

-- ---- what stands before the token at which the machine stops

-- what a stop leaves
pub left_same : {m n : Refusal} {ts us : List Token} → ◌≡◌ {A = Out (List Token) (List ℕ)} (stop m ts) (stop n us) → ts ≡ us
left_same h = cc

-- some tokens after which the text ends well
pub data GoesWell (before : List Token) (w : Want) (st : List Frame) (f : List ℕ) : Type 0 where
  goes_well : (after : List Token) (e : List ℕ) → run (before ++ after) w st f ≡ done e [] → GoesWell before w st f

pub went_well : (before : List Token) (u : Token) (us : List Token) (w : Want) (st : List Frame) (f : List ℕ) → Good w st → run (before ++ (u ∷ us)) w st f ≡ stop NoParse (u ∷ us) → GoesWell before w st f
unfolding run Good GoodNext
went_well [] u us w st f s h = go (can_end w st f s)
  where
    go : EndsWith w st f → GoesWell [] w st f
    go (ends_with ts e i) = goes_well ts e i
went_well (t ∷ before) u us w st f s h = go (on_token t w st f) refl (λ w' st' f'. went_well before u us w' st' f')
  where
    further : (w' : Want) (st' : List Frame) (f' : List ℕ) → on_token t w st f ≡ on w' st' f' → GoesWell before w' st' f' → GoesWell (t ∷ before) w st f
    further w' st' f' e (goes_well after l i) = goes_well after l (rw (e, run) i)

    longer : t ∷ (before ++ (u ∷ us)) ≡ u ∷ us → ⊥
    longer i =
        let a : length (t ∷ (before ++ (u ∷ us))) ≡ length (u ∷ us) = ap length i in
        let b : length (before ++ (u ∷ us)) ≡ length before + length (u ∷ us) = length-append before (u ∷ us) in
        omega arith

    next : (w' : Want) (st' : List Frame) (f' : List ℕ) → on_token t w st f ≡ on w' st' f' → GoodNext (on_token t w st f) → Good w' st'
    next w' st' f' e g = subst GoodNext e g

    go : (o : Next) → on_token t w st f ≡ o → ((w' : Want) (st' : List Frame) (f' : List ℕ) → Good w' st' → run (before ++ (u ∷ us)) w' st' f' ≡ stop NoParse (u ∷ us) → GoesWell before w' st' f') → GoesWell (t ∷ before) w st f
    go (on w' st' f') e ih = further w' st' f' e (ih w' st' f' (next w' st' f' e (good_token t w st f s)) (rw (e, run) at h))
    go no e ih = absurd (longer (left_same (rw (e, run) at h)))
