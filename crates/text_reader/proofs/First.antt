-- A text stops at the first token that cannot be: whatever follows that token, no text parses; and what stands before it can be gone on with. Assumes nothing.
use Prim.Native.Nat.{ℕ, ◌≤◌}
use mathlib.Core.Path.{◌≡◌, refl, sym, ◌∙◌, ap}
use mathlib.Core.List.{List, [], ◌∷◌, ◌++◌}
use native.Mathlib.Omega.{arith}
use lib.ListN.{length}
use Rattle.refusals.specs.declared.Refusal.TheVariants.{NoParse}
use Rattle.meaning.specs.Tree.{Tree}
use Rattle.meaning.specs.Form.{write}
use Rattle.meaning.specs.Meter.{Out, done, stop}
use Rattle.meaning.proofs.MeterLaws.{not_stop}
use Rattle.notation.specs.Grammar.{Token, whole}
use Rattle.text_reader.specs.declared.machine.Frame.{Frame}
use Rattle.text_reader.specs.declared.machine.Want.{Want}
use Rattle.text_reader.specs.declared.machine.Want.TheVariants.{Whole, First, More, Last, Bracket, Nothing}
use Rattle.text_reader.specs.Machine.{Next, on, no, on_token, at_end, run}
use Rattle.text_reader.proofs.Grows.{onward, grows}
use Rattle.text_reader.proofs.Open.{left_same, Good, GoesWell, goes_well, went_well}

-- ---- the machine

-- the tokens ts are some before u, and then u and us; and whatever follows u, the machine stops there
pub data Stopped (ts : List Token) (w : Want) (st : List Frame) (f : List ℕ) (u : Token) (us : List Token) : Type 0 where
  stopped : (before : List Token) → ts ≡ before ++ (u ∷ us) → ((vs : List Token) → run (before ++ (u ∷ vs)) w st f ≡ stop NoParse (u ∷ vs)) → Stopped ts w st f u us

-- the end leaves nothing
end_leaves : {X : Type 0} (w : Want) (f : List ℕ) (u : Token) (us : List Token) → at_end w f ≡ stop NoParse (u ∷ us) → X
unfolding at_end
end_leaves Nothing f u us h = not_stop (sym h)
end_leaves Whole f u us h = absurd (let z : length (u ∷ us) ≡ 0 = ap length (sym (left_same h)) in omega arith)
end_leaves (First p) f u us h = absurd (let z : length (u ∷ us) ≡ 0 = ap length (sym (left_same h)) in omega arith)
end_leaves (More p) f u us h = absurd (let z : length (u ∷ us) ≡ 0 = ap length (sym (left_same h)) in omega arith)
end_leaves (Last p) f u us h = absurd (let z : length (u ∷ us) ≡ 0 = ap length (sym (left_same h)) in omega arith)
end_leaves Bracket f u us h = absurd (let z : length (u ∷ us) ≡ 0 = ap length (sym (left_same h)) in omega arith)

machine_stops : (ts : List Token) (w : Want) (st : List Frame) (f : List ℕ) (u : Token) (us : List Token) → run ts w st f ≡ stop NoParse (u ∷ us) → Stopped ts w st f u us
unfolding run
machine_stops [] w st f u us h = end_leaves w f u us h
machine_stops (t ∷ ts) w st f u us h = go (on_token t w st f) refl (λ w' st' f' k. machine_stops ts w' st' f' u us k)
  where
    further : (w' : Want) (st' : List Frame) (f' : List ℕ) → on_token t w st f ≡ on w' st' f' → Stopped ts w' st' f' u us → Stopped (t ∷ ts) w st f u us
    further w' st' f' e (stopped before i k) = stopped (t ∷ before) (ap (t ∷◌) i) (λ vs. rw (e, run) (k vs))

    here : on_token t w st f ≡ no → t ∷ ts ≡ u ∷ us → Stopped (t ∷ ts) w st f u us
    here e i = let z : t ≡ u = cc in let d : on_token u w st f ≡ no = (rw z at e) in stopped [] i (λ vs. rw (d, run) refl)

    go : (o : Next) → on_token t w st f ≡ o → ((w' : Want) (st' : List Frame) (f' : List ℕ) → run ts w' st' f' ≡ stop NoParse (u ∷ us) → Stopped ts w' st' f' u us) → Stopped (t ∷ ts) w st f u us
    go (on w' st' f') e ih = further w' st' f' e (ih w' st' f' (rw (e, run) at h))
    go no e ih = here e (left_same (rw (e, run) at h))

-- ---- the definition

-- the tokens are those of a text that parses
pub data Parses (k : ℕ) (ts : List Token) : Type 0 where
  parses : (t : Tree) (left : List Token) → whole k ts ≡ done t left → Parses k ts

-- the machine stops where the definition does
as_machine : (k : ℕ) (ts us : List Token) → length ts ≤ k → whole k ts ≡ stop NoParse us → run ts Whole [] [] ≡ stop NoParse us
unfolding onward
as_machine k ts us l h = grows k ts (omega arith) ∙ rw (h, onward) refl

pub as_definition : (k : ℕ) (ts us : List Token) → length ts ≤ k → run ts Whole [] [] ≡ stop NoParse us → whole k ts ≡ stop NoParse us
unfolding onward
as_definition k ts us l h = go (whole k ts) refl (sym (grows k ts (omega arith)) ∙ h)
  where
    go : (o : Out (List Token) Tree) → whole k ts ≡ o → onward o (λ t vs. done (write t) vs) ≡ stop NoParse us → whole k ts ≡ stop NoParse us
    go (done t vs) e j = not_stop (sym j)
    go (stop n vs) e j = e ∙ cc

whole_definition : (k : ℕ) (ts : List Token) (e : List ℕ) → length ts ≤ k → run ts Whole [] [] ≡ done e [] → Parses k ts
unfolding onward
whole_definition k ts e l h = go (whole k ts) refl (sym (grows k ts (omega arith)) ∙ h)
  where
    go : (o : Out (List Token) Tree) → whole k ts ≡ o → onward o (λ t vs. done (write t) vs) ≡ done e [] → Parses k ts
    go (done t vs) i j = parses t vs i
    go (stop n vs) i j = not_stop j

-- the tokens ts are some before u, and then u and us; whatever follows u, the definition stops there; and there is what could stand in its place
pub data StoppedFor (ts : List Token) (u : Token) (us : List Token) : Type 0 where
  stopped_for : (before : List Token) → ts ≡ before ++ (u ∷ us) → ((vs : List Token) → whole (length (before ++ (u ∷ vs))) (before ++ (u ∷ vs)) ≡ stop NoParse (u ∷ vs))
      → (after : List Token) → Parses (length (before ++ after)) (before ++ after) → StoppedFor ts u us

-- Whatever follows the token at which a reading stops, it stops there; and the tokens before it are those of some text that parses.
pub stops_for_good : (ts : List Token) (u : Token) (us : List Token) → whole (length ts) ts ≡ stop NoParse (u ∷ us) → StoppedFor ts u us
unfolding Good
stops_for_good ts u us h = go (machine_stops ts Whole [] [] u us (as_machine (length ts) ts (u ∷ us) (omega arith) h))
  where
    well : (before : List Token) → ts ≡ before ++ (u ∷ us) → ((vs : List Token) → run (before ++ (u ∷ vs)) Whole [] [] ≡ stop NoParse (u ∷ vs)) → GoesWell before Whole [] [] → StoppedFor ts u us
    well before i k (goes_well after e j) = stopped_for before i (λ vs. as_definition (length (before ++ (u ∷ vs))) (before ++ (u ∷ vs)) (u ∷ vs) (omega arith) (k vs)) after (whole_definition (length (before ++ after)) (before ++ after) e (omega arith) j)

    go : Stopped ts Whole [] [] u us → StoppedFor ts u us
    go (stopped before i k) = well before i k (went_well before u us Whole [] [] refl (k us))
