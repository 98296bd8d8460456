-- What each return of the whole needs: the machine's form is read as the text is. Assumes nothing.
use mathlib.Core.Path.{◌≡◌, refl, sym, ◌∙◌, ap, subst}
use mathlib.Core.List.{List, [], ◌∷◌, ◌++◌, append_assoc}
use mathlib.Core.Option.{none, some}
use Prim.Native.Nat.{ℕ, suc, ◌+◌, ◌-◌, ◌<◌, ◌≤◌}
use native.Mathlib.Omega.{arith}
use lib.ListN.{length, drop, length-append}
use Rattle.refusals.specs.declared.Refusal.TheVariants.{FormLong, NoParse, TextLong}
use Rattle.meaning.specs.Tree.{Tree}
use Rattle.meaning.specs.Limits.{form_limit}
use Rattle.meaning.specs.Meter.{Out, done, stop}
use Rattle.meaning.specs.Form.{Reading as Read, write, read_form}
use Rattle.meaning.proofs.Tests.{leb_true, leb_no}
use Rattle.meaning.proofs.MeterLaws.{not_stop}
use Rattle.form.specs.Spans as spans
use Rattle.form.specs.Spans.{stops}
use Rattle.notation.specs.Texts.{text_limit}
use Rattle.notation.specs.Grammar.{Token, Spot, spot, spots, signs, tokens, whole, tree_of_text, read_text}
use Rattle.notation.specs.Faults.{first_place, place_of_last, fault}
use Rattle.text_reader.specs.declared.machine.Frame.{Frame}
use Rattle.text_reader.specs.declared.machine.Reading.{Reading}
use Rattle.text_reader.specs.declared.machine.Turn.{Turn}
use Rattle.text_reader.specs.declared.machine.Turn.TheVariants.{Goes, Done, Fails}
use Rattle.std.specs.Prelude.{Result, Ok, Err, Some, None}
use Rattle.std.specs.Prelude.{Option as Maybe}
use Rattle.text_reader.specs.Forms.{Emitted, Holds, Stands}
use Rattle.text_reader.specs.Tokens.{spots_at, signs_at, OneToken, one_token}
use Rattle.text_reader.specs.Turns.{stack_in, Fair, Comes, comes, GoesOn, EndsWell, NoText, TurnOk}
use Rattle.text_reader.specs.Converts.{NotConverted, ConvertedOk, Located, FaultOk, all_of, Ends, ends, Reached, reached, StopsAt, EndingOk, begun}
use Rattle.text_reader.proofs.EmitLaws.{nothing_emitted}
use Rattle.text_reader.proofs.Grows.{onward, grows}
use Rattle.text_reader.proofs.First.{as_definition}

-- ---- what the machine comes to is what the definition reads

done_same : {a b : List ℕ} {ts us : List Token} → ◌≡◌ {A = Out (List Token) (List ℕ)} (done a ts) (done b us) → a ≡ b
done_same h = cc

read_whole : (text e : List ℕ) → all_of text ≡ done e [] → (t : Tree) × (ts : List Token) × (tree_of_text text ≡ done t ts) × (write t ≡ e)
unfolding tree_of_text tokens spots onward
read_whole text e h = go (whole (length (tokens text)) (tokens text)) refl (sym (grows (length (tokens text)) (tokens text) (omega arith)) ∙ h)
  where
    go : (o : Out (List Token) Tree) → whole (length (tokens text)) (tokens text) ≡ o → onward o (λ t us. done (write t) us) ≡ done e []
        → (t : Tree) × (ts : List Token) × (whole (length (tokens text)) (tokens text) ≡ done t ts) × (write t ≡ e)
    go (done t ts) i j = (t, ts, i, done_same j)
    go (stop n ts) i j = not_stop j

read_none : (text : List ℕ) (us : List Token) → all_of text ≡ stop NoParse us → tree_of_text text ≡ stop NoParse us
unfolding tree_of_text tokens spots
read_none text us h = as_definition (length (tokens text)) (tokens text) us (omega arith) h

module _ (text : List ℕ) (short : length text ≤ text_limit) where
  read_as : (u : ℕ) (t : Tree) (ts : List Token) → tree_of_text text ≡ done t ts → read_text text u ≡ read_form (write t) u
  unfolding read_text
  read_as u t ts i = rw (leb_true (length text) text_limit short, i, read_text) refl

  not_read : (ts : List Token) → tree_of_text text ≡ stop NoParse ts → NotConverted text NoParse
  unfolding read_text
  not_read ts i = record { is = λ u. stops (record { left = []; units = u }) (rw (leb_true (length text) text_limit short, i, read_text) refl) }

  long_read : (u : ℕ) (e : List ℕ) → form_limit < length e → spans.Stops (read_form e u) FormLong
  unfolding read_form
  long_read u e h = stops (record { left = e; units = u }) (rw (leb_no (length e) form_limit h, read_form) refl)

  -- the form is whole, or too long
  ended : (e f : List ℕ) (n : ℕ) → all_of text ≡ done e [] → Emitted e f (Some n) → ConvertedOk text f (Ok n)
  unfolding ConvertedOk Holds
  ended e f n h m =
      let (t, ts, j, k) = read_whole text e h in
      let z : Stands e f n = m.holds in
      record { within = m.within; is = λ u. read_as u t ts j ∙ ap (λ (l : List ℕ). read_form l u) (k ∙ sym z.front) }

  ended_long : (e f : List ℕ) → all_of text ≡ done e [] → Emitted e f None → ConvertedOk text f (Err FormLong)
  unfolding ConvertedOk Holds
  ended_long e f h m =
      let (t, ts, j, k) = read_whole text e h in
      record { is = λ u. subst (λ (o : Out Read Tree). spans.Stops o FormLong) (sym (read_as u t ts j ∙ ap (λ (l : List ℕ). read_form l u) k)) (long_read u e m.holds) }

pub too_long : (text f : List ℕ) → text_limit < length text → ConvertedOk text f (Err TextLong)
unfolding ConvertedOk read_text
too_long text f h = record { is = λ u. stops (record { left = []; units = u }) (rw (leb_no (length text) text_limit h, read_text) refl) }

-- ---- where the text stops

-- as many tokens with their places as without
signs_count : (ss : List Spot) → length (signs ss) ≡ length ss
unfolding signs
signs_count [] = refl
signs_count (spot t i ∷ ss) = ap suc (signs_count ss)

drop_front : (a b : List Spot) → drop (length a) (a ++ b) ≡ b
drop_front [] b = refl
drop_front (x ∷ a) b = drop_front a b

-- the last tokens of a text are those from a place on
last_place : (text : List ℕ) (at : ℕ) → Reached text at → place_of_last text (length (signs_at text at)) ≡ first_place (spots_at text at) (length text)
unfolding place_of_last spots
last_place text at (reached before e) =
    let a : length (signs_at text at) ≡ length (spots_at text at) = signs_count (spots_at text at) in
    let b : length (spots_at text 0) ≡ length (before ++ spots_at text at) = ap length e in
    let d : length (before ++ spots_at text at) ≡ length before + length (spots_at text at) = length-append before (spots_at text at) in
    let z : length (spots_at text 0) - length (signs_at text at) ≡ length before = omega arith in
    ap (λ (n : ℕ). first_place (drop n (spots_at text 0)) (length text)) z
    ∙ ap (λ (ss : List Spot). first_place (drop (length before) ss) (length text)) e
    ∙ ap (λ (ss : List Spot). first_place ss (length text)) (drop_front before (spots_at text at))

none_read : (text : List ℕ) (t : Tree) (ts : List Token) → tree_of_text text ≡ done t ts → fault text ≡ none
unfolding fault
none_read text t ts i = rw (i, fault) refl

some_read : (text : List ℕ) (ts : List Token) → tree_of_text text ≡ stop NoParse ts → fault text ≡ some (place_of_last text (length ts))
unfolding fault
some_read text ts j = rw (j, fault) refl

-- a token further on
one_more : (text : List ℕ) (at next : ℕ) → Reached text at → OneToken text at next → Reached text next
one_more text at next (reached before e) (one_token s i) = reached (before ++ (s ∷ [])) (e ∙ ap (before ++◌) i ∙ sym (append_assoc before (s ∷ []) (spots_at text next)))

-- ---- the loop

pub record Going (text : List ℕ) (fr : List Frame) (f : List ℕ) (r : Reading) : Type 0 where
  pub fair : Fair text fr f r
  pub came : Comes (all_of text) text fr f r
  pub upto : Reached text r.at

pub going_starts : (text : List ℕ) (fr : List Frame) (f : List ℕ) (r : Reading) → r ≡ begun → length text ≤ text_limit → text_limit ≤ length fr → form_limit ≤ length f → Going text fr f r
unfolding stack_in
going_starts text fr f r i a b c = subst (λ (x : Reading). Going text fr f x) (sym i) (record {
  fair = record { at = omega arith; deep = omega arith; short = omega arith; room = c; within = omega arith };
  came = comes [] (nothing_emitted c) refl;
  upto = reached [] refl;
})

module _ (text : List ℕ) (fr fr' : List Frame) (f f' : List ℕ) (r : Reading) (t : Turn) where
  pub going_on : (q : Reading) → TurnOk text fr fr' f f' r t → t ≡ Goes q → Going text fr f r → Going text fr' f' q
  unfolding TurnOk
  going_on q o e w =
      let z : GoesOn text fr fr' f f' r q = (rw e at o) in
      record { fair = z.fair; came = then z w.came; upto = one_more text r.at q.at w.upto z.one }
    where
      join : (o o' : Out (List Token) (List ℕ)) → o ≡ o' → Comes o' text fr' f' q → Comes o text fr' f' q
      join o o' i (comes e m j) = comes e m (i ∙ j)

      then : GoesOn text fr fr' f f' r q → Comes (all_of text) text fr f r → Comes (all_of text) text fr' f' q
      then z (comes e m i) = join _ _ i (z.so e m)

  pub going_later : (q : Reading) → TurnOk text fr fr' f f' r t → t ≡ Goes q → r.at < q.at
  unfolding TurnOk
  going_later q o e = let z : GoesOn text fr fr' f f' r q = (rw e at o) in z.later

  pub going_done : (g : Maybe ℕ) → TurnOk text fr fr' f f' r t → t ≡ Done g → Going text fr f r → EndingOk text f' (Ok g)
  unfolding TurnOk EndingOk
  going_done g o e w = let z : EndsWell text fr f f' r g = (rw e at o) in then z w.came
    where
      then : EndsWell text fr f f' r g → Comes (all_of text) text fr f r → Ends text f' g
      then z (comes l m j) = let (k, n) = z.so l m in ends l (j ∙ k) n

  pub going_fails : TurnOk text fr fr' f f' r t → t ≡ Fails → Going text fr f r → EndingOk text f' (Err r.at)
  unfolding TurnOk EndingOk
  going_fails o e w = let z : NoText text fr r = (rw e at o) in record { within = w.fair.at; before = w.upto; is = then z w.came }
    where
      then : NoText text fr r → Comes (all_of text) text fr f r → all_of text ≡ stop NoParse (signs_at text r.at)
      then z (comes l m j) = j ∙ z.so l

pub going_less : (text : List ℕ) (fr fr' : List Frame) (f f' : List ℕ) (r q : Reading) (t : Turn) (m : ℕ) → TurnOk text fr fr' f f' r t → t ≡ Goes q → Going text fr f r → length text + 1 - r.at ≡ m → length text + 1 - q.at < m
going_less text fr fr' f f' r q t m o e w i =
    let z : r.at < q.at = going_later text fr fr' f f' r t q o e in
    let y : r.at ≤ length text = w.fair.at in
    omega arith

-- ---- what comes of the machine's end

module _ (text f : List ℕ) (x : Result (Maybe ℕ) ℕ) (h : length text ≤ text_limit) (o : EndingOk text f x) where
  pub whole_converted : (n : ℕ) (g : Maybe ℕ) → x ≡ Ok g → g ≡ Some n → ConvertedOk text f (Ok n)
  unfolding EndingOk
  whole_converted n g e i = let y : Ends text f g = (rw e at o) in let z : Ends text f (Some n) = (rw i at y) in then z
    where
      then : Ends text f (Some n) → ConvertedOk text f (Ok n)
      then (ends l j m) = ended text h l f n j m

  pub long_converted : (g : Maybe ℕ) → x ≡ Ok g → g ≡ None → ConvertedOk text f (Err FormLong)
  unfolding EndingOk
  long_converted g e i = let y : Ends text f g = (rw e at o) in let z : Ends text f None = (rw i at y) in then z
    where
      then : Ends text f None → ConvertedOk text f (Err FormLong)
      then (ends l j m) = ended_long text h l f j m

  pub stops_converted : (at : ℕ) → x ≡ Err at → ConvertedOk text f (Err NoParse)
  unfolding EndingOk ConvertedOk
  stops_converted at e = let z : StopsAt text at = (rw e at o) in not_read text h (signs_at text at) (read_none text (signs_at text at) z.is)

  pub stops_within : (at : ℕ) → x ≡ Err at → at ≤ length text
  unfolding EndingOk
  stops_within at e = let z : StopsAt text at = (rw e at o) in z.within

  pub whole_parses : (g : Maybe ℕ) → x ≡ Ok g → FaultOk text (Ok None)
  unfolding EndingOk FaultOk
  whole_parses g e = let z : Ends text f g = (rw e at o) in then z
    where
      then : Ends text f g → Located text none
      then (ends l j m) = let (t, ts, i, k) = read_whole text l j in record { short = h; is = none_read text t ts i }

  pub stops_there : (at p : ℕ) → p ≡ first_place (spots_at text at) (length text) → x ≡ Err at → FaultOk text (Ok (Some p))
  unfolding EndingOk FaultOk
  stops_there at p i e =
      let z : StopsAt text at = (rw e at o) in
      record { short = h; is = some_read text (signs_at text at) (read_none text (signs_at text at) z.is) ∙ ap some (last_place text at z.before ∙ sym i) }

pub too_long_to_see : (text : List ℕ) → text_limit < length text → FaultOk text (Err TextLong)
unfolding FaultOk
too_long_to_see text h = record { long = h; is = refl }
