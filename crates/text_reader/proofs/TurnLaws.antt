-- What each return of a turn needs: a step of the machine is a token of the text. Assumes nothing.
use mathlib.Core.Path.{◌≡◌, refl, sym, ◌∙◌, ap, subst}
use mathlib.Core.List.{List, [], ◌∷◌}
use Prim.Native.Nat.{ℕ, ◌+◌, ◌-◌, ◌<◌, ◌≤◌}
use native.Mathlib.Omega.{arith}
use lib.ListN.{length}
use mir.Syntax.{w64}
use mir.Val.{Fits}
use Rattle.refusals.specs.declared.Refusal.TheVariants.{NoParse as not-parsed}
use Rattle.meaning.specs.Meter.{Out, stop}
use Rattle.notation.specs.Texts.{text_limit}
use Rattle.notation.specs.Grammar.{opening, closing, dot, wrong, word, quoted, spot, signs}
use Rattle.notation.specs.Grammar.{Token as Sign}
use Rattle.text_reader.specs.declared.scan.Token.{Token}
use Rattle.text_reader.specs.declared.scan.Token.TheVariants.{End, Open, Close, Dot, Word, Quoted, Wrong}
use Rattle.text_reader.specs.declared.machine.Frame.{Frame}
use Rattle.text_reader.specs.declared.machine.Want.{Want}
use Rattle.text_reader.specs.declared.machine.Want.TheVariants.{Whole, First, More, Last, Bracket, Nothing}
use Rattle.text_reader.specs.declared.machine.Reading.{Reading}
use Rattle.std.specs.Prelude.{Option, Some, None}
use Rattle.text_reader.specs.declared.machine.Turn.{Turn}
use Rattle.text_reader.specs.declared.machine.Turn.TheVariants.{Fails}
use Rattle.text_reader.specs.Forms.{Within}
use Rattle.text_reader.specs.Tokens.{between, spots_at, signs_at, one_token, Signed, Worded, InQuotes, Ended, Broken, TokenOk}
use Rattle.text_reader.specs.Machine.{Next, on, no, on_opening, on_closing, on_dot, on_atom, on_word, on_token, at_end, run}
use Rattle.text_reader.specs.Turns.{stack_in, Leads, leads, StepOk, LeadsOn, leads_on, PassOk, AtomOk, WordOk, dotted, end_turn, turn_of, Fair, Comes, comes, NoText, TurnOk}

-- ---- steps that look at no open list

pass_step : (fr : List Frame) (f f' : List ℕ) (k : Want → List Frame → List ℕ → Next) (r : Reading) (next : ℕ) (s : Option Reading) → PassOk k f f' r next s → StepOk k fr fr f f' r next s
unfolding PassOk StepOk
pass_step fr f f' k r next (Some q) h = record {
  at = h.at;
  deep = let z : q.depth ≡ r.depth = h.deep in omega arith;
  within = h.within;
  frames = refl;
  long = h.long;
  so = λ e m. led (h.so (stack_in fr r.depth) e m);
}
  where
    led : {o : Next} → LeadsOn o (stack_in fr r.depth) f' q → Leads o fr f' q
    led {o} (leads_on e m i) = leads e m (i ∙ ap (λ (d : ℕ). on q.want (stack_in fr d) e) (sym h.deep))
pass_step fr f f' k r next None h = record { so = λ e. h.so (stack_in fr r.depth) e }

dot_step : (fr : List Frame) (f : List ℕ) (r : Reading) (next : ℕ) (w : Want) → r.want ≡ w → Within r.grown → StepOk on_dot fr fr f f r next (dotted w r next)
unfolding StepOk on_dot
dot_step fr f r next (More p) i h = record {
  at = refl;
  deep = omega arith;
  within = h;
  frames = refl;
  long = refl;
  so = λ e m. leads e m (ap (λ (x : Want). on_dot x (stack_in fr r.depth) e) i);
}
dot_step fr f r next (First p) i h = record { so = λ e. ap (λ (x : Want). on_dot x (stack_in fr r.depth) e) i }
dot_step fr f r next Bracket i h = record { so = λ e. ap (λ (x : Want). on_dot x (stack_in fr r.depth) e) i }
dot_step fr f r next Whole i h = record { so = λ e. ap (λ (x : Want). on_dot x (stack_in fr r.depth) e) i }
dot_step fr f r next (Last p) i h = record { so = λ e. ap (λ (x : Want). on_dot x (stack_in fr r.depth) e) i }
dot_step fr f r next Nothing i h = record { so = λ e. ap (λ (x : Want). on_dot x (stack_in fr r.depth) e) i }

-- ---- one token

run_on : (t : Sign) (ts : List Sign) (w w' : Want) (st st' : List Frame) (e e' : List ℕ) → on_token t w st e ≡ on w' st' e' → run (t ∷ ts) w st e ≡ run ts w' st' e'
unfolding run
run_on t ts w w' st st' e e' i = rw (i, run) refl

run_no : (t : Sign) (ts : List Sign) (w : Want) (st : List Frame) (e : List ℕ) → on_token t w st e ≡ no → run (t ∷ ts) w st e ≡ stop not-parsed (t ∷ ts)
unfolding run
run_no t ts w st e i = rw (i, run) refl

-- the tokens from a place on, without their places
signs_one : (text : List ℕ) (at next : ℕ) (t : Sign) (i : ℕ) → spots_at text at ≡ spot t i ∷ spots_at text next → signs_at text at ≡ t ∷ signs_at text next
unfolding signs
signs_one text at next t i h = ap signs h

stopped : List Sign → Out (List Sign) (List ℕ)
stopped us = stop not-parsed us

-- what all tokens come to where nothing fits
stuck : (text : List ℕ) (fr : List Frame) (r : Reading) (ts : List Sign) (e : List ℕ) → signs_at text r.at ≡ ts → run ts r.want (stack_in fr r.depth) e ≡ stop not-parsed ts
    → run (signs_at text r.at) r.want (stack_in fr r.depth) e ≡ stop not-parsed (signs_at text r.at)
unfolding stopped
stuck text fr r ts e i h = ap (λ (us : List Sign). run us r.want (stack_in fr r.depth) e) i ∙ h ∙ ap stopped (sym i)

module _ (text : List ℕ) (fr fr' : List Frame) (f f' : List ℕ) (r : Reading) (next : ℕ) (k : Want → List Frame → List ℕ → Next) (sign : Sign) (place : ℕ) where
  token_turn : (s : Option Reading) → ((w : Want) (st : List Frame) (e : List ℕ) → on_token sign w st e ≡ k w st e) → r.at < next → next ≤ length text → spots_at text r.at ≡ spot sign place ∷ spots_at text next
      → StepOk k fr fr' f f' r next s → Fair text fr f r → TurnOk text fr fr' f f' r (turn_of s)
  unfolding StepOk TurnOk
  token_turn (Some q) same l m i h fair = record {
    fair = record {
      at = let z : q.at ≡ next = h.at in omega arith;
      deep = let z : q.at ≡ next = h.at in let y : q.depth ≤ r.depth + 1 = h.deep in omega (arith, fair.deep);
      short = let z : length fr' ≡ length fr = h.frames in omega (arith, fair.short);
      room = let z : length f' ≡ length f = h.long in omega (arith, fair.room);
      within = h.within;
    };
    later = let z : q.at ≡ next = h.at in omega arith;
    one = one_token (spot sign place) (i ∙ ap (λ (n : ℕ). spot sign place ∷ spots_at text n) (sym h.at));
    so = λ e x. went e (h.so e x);
  }
    where
      went : (e : List ℕ) → Leads (k r.want (stack_in fr r.depth) e) fr' f' q → Comes (run (signs_at text r.at) r.want (stack_in fr r.depth) e) text fr' f' q
      went e (leads e' y j) = comes e' y
          (ap (λ (ts : List Sign). run ts r.want (stack_in fr r.depth) e) (signs_one text r.at next sign place i)
          ∙ run_on sign (signs_at text next) r.want q.want (stack_in fr r.depth) (stack_in fr' q.depth) e e' (same r.want (stack_in fr r.depth) e ∙ j)
          ∙ ap (λ (n : ℕ). run (signs_at text n) q.want (stack_in fr' q.depth) e') (sym h.at))
  token_turn None same l m i h fair = record {
    so = λ e. stuck text fr r (sign ∷ signs_at text next) e (signs_one text r.at next sign place i) (run_no sign (signs_at text next) r.want (stack_in fr r.depth) e (same r.want (stack_in fr r.depth) e ∙ h.so e));
  }

-- ---- the returns

module _ (text : List ℕ) (fr fr' : List Frame) (f f' : List ℕ) (r : Reading) (tk : Token) (s : Option Reading) (t : Turn) where
  turn_as : t ≡ turn_of s → TurnOk text fr fr' f f' r (turn_of s) → TurnOk text fr fr' f f' r t
  turn_as i h = subst (λ (x : Turn). TurnOk text fr fr' f f' r x) (sym i) h

  pub open_turn : (next : ℕ) → t ≡ turn_of s → StepOk on_opening fr fr' f f' r next s → TokenOk text r.at tk → tk ≡ Open next → Fair text fr f r → TurnOk text fr fr' f f' r t
  unfolding TokenOk on_token
  open_turn next i h o e fair = let z : Signed text r.at next opening = (rw e at o) in turn_as i (token_turn text fr fr' f f' r next on_opening opening (next - 1) s (λ w st l. refl) z.after z.within z.is h fair)

  pub close_turn : (next : ℕ) → t ≡ turn_of s → StepOk on_closing fr fr' f f' r next s → TokenOk text r.at tk → tk ≡ Close next → Fair text fr f r → TurnOk text fr fr' f f' r t
  unfolding TokenOk on_token
  close_turn next i h o e fair = let z : Signed text r.at next closing = (rw e at o) in turn_as i (token_turn text fr fr' f f' r next on_closing closing (next - 1) s (λ w st l. refl) z.after z.within z.is h fair)

module _ (text : List ℕ) (fr : List Frame) (f f' : List ℕ) (r : Reading) (tk : Token) (s : Option Reading) (t : Turn) where
  pub dot_turn : (next : ℕ) → t ≡ turn_of s → s ≡ dotted r.want r next → TokenOk text r.at tk → tk ≡ Dot next → Fair text fr f r → TurnOk text fr fr f f r t
  unfolding TokenOk on_token
  dot_turn next i j o e fair =
      let z : Signed text r.at next dot = (rw e at o) in
      turn_as text fr fr f f r tk s t i
      (token_turn text fr fr f f r next on_dot dot (next - 1) s (λ w st l. refl) z.after z.within z.is
      (subst (λ (x : Option Reading). StepOk on_dot fr fr f f r next x) (sym j) (dot_step fr f r next r.want refl fair.within)) fair)

  pub word_turn : (from to : ℕ) (v : List ℕ) → t ≡ turn_of s → WordOk v f f' r to s → v ≡ between text from to → TokenOk text r.at tk → tk ≡ Word from to → Fair text fr f r → TurnOk text fr fr f f' r t
  unfolding TokenOk on_token WordOk
  word_turn from to v i h y o e fair =
      let z : Worded text r.at from to = (rw e at o) in
      let a : r.at ≤ from = z.after in
      let b : from < to = z.some in
      turn_as text fr fr f f' r tk s t i
      (token_turn text fr fr f f' r to (λ w. on_word w v) (word v) from s (λ w st l. refl) (omega arith) z.within (z.is ∙ ap (λ (x : List ℕ). spot (word x) from ∷ spots_at text to) (sym y))
      (pass_step fr f f' (λ w. on_word w v) r to s h) fair)

  pub quoted_turn : (from to : ℕ) (b : List ℕ) → t ≡ turn_of s → AtomOk b f f' r (to + 1) s → b ≡ between text from to → TokenOk text r.at tk → tk ≡ Quoted from to → Fair text fr f r → TurnOk text fr fr f f' r t
  unfolding TokenOk on_token AtomOk
  quoted_turn from to b i h y o e fair =
      let z : InQuotes text r.at from to = (rw e at o) in
      let x : r.at < from = z.after in
      let u : from ≤ to = z.upto in
      turn_as text fr fr f f' r tk s t i
      (token_turn text fr fr f f' r (to + 1) (λ w. on_atom w b) (quoted b) (from - 1) s (λ w st l. refl) (omega arith) (omega (arith, z.within)) (z.is ∙ ap (λ (x : List ℕ). spot (quoted x) (from - 1) ∷ spots_at text (to + 1)) (sym y))
      (pass_step fr f f' (λ w. on_atom w b) r (to + 1) s h) fair)

module _ (text : List ℕ) (fr : List Frame) (f : List ℕ) (r : Reading) (tk : Token) where
  pub wrong_turn : (i : ℕ) → TokenOk text r.at tk → tk ≡ Wrong i → TurnOk text fr fr f f r Fails
  unfolding TokenOk TurnOk on_token signs
  wrong_turn i o e = let z : Broken text r.at i = (rw e at o) in record {
    so = λ l. stuck text fr r (wrong ∷ []) l (ap signs z.is) (run_no wrong [] r.want (stack_in fr r.depth) l refl);
  }

  -- nothing is left, and something is wanted
  early : (w : Want) → r.want ≡ w → Ended text r.at → ((e : List ℕ) → at_end w e ≡ stop not-parsed []) → NoText text fr r
  unfolding run signs
  early w i z h = record { so = λ e. stuck text fr r [] e (ap signs z.is) (ap (λ (x : Want). at_end x e) i ∙ h e) }

  ends_as : (w : Want) → r.want ≡ w → Ended text r.at → TurnOk text fr fr f f r (end_turn w r.grown)
  unfolding TurnOk run at_end signs
  ends_as Nothing i z = record { so = λ e m. (ap (λ (ts : List Sign). run ts r.want (stack_in fr r.depth) e) (ap signs z.is) ∙ ap (λ (w : Want). at_end w e) i, m) }
  ends_as Whole i z = early Whole i z (λ e. refl)
  ends_as (First p) i z = early (First p) i z (λ e. refl)
  ends_as (More p) i z = early (More p) i z (λ e. refl)
  ends_as (Last p) i z = early (Last p) i z (λ e. refl)
  ends_as Bracket i z = early Bracket i z (λ e. refl)

  pub end_here : (t : Turn) → t ≡ end_turn r.want r.grown → TokenOk text r.at tk → tk ≡ End → TurnOk text fr fr f f r t
  unfolding TokenOk
  end_here t i o e = let z : Ended text r.at = (rw e at o) in subst (λ (x : Turn). TurnOk text fr fr f f r x) (sym i) (ends_as r.want refl z)

-- ---- what the calls need

module _ (text : List ℕ) (fr : List Frame) (f : List ℕ) (r : Reading) (tk : Token) where
  pub open_depth : (next : ℕ) → TokenOk text r.at tk → tk ≡ Open next → Fair text fr f r → r.depth < length fr
  unfolding TokenOk
  open_depth next o e fair =
      let z : Signed text r.at next opening = (rw e at o) in
      let a : r.at < next = z.after in
      let b : next ≤ length text = z.within in
      let c : r.depth ≤ r.at = fair.deep in
      let d : length text ≤ length fr = fair.short in
      omega arith

  pub open_small : Fair text fr f r → length text ≤ text_limit → r.depth < 65536
  open_small fair h = let a : r.at ≤ length text = fair.at in let c : r.depth ≤ r.at = fair.deep in omega arith

module _ (text : List ℕ) (at from to : ℕ) (tk : Token) where
  pub word_upto : TokenOk text at tk → tk ≡ Word from to → from ≤ to
  unfolding TokenOk
  word_upto o e = let z : Worded text at from to = (rw e at o) in let b : from < to = z.some in omega arith

  pub word_within : TokenOk text at tk → tk ≡ Word from to → to ≤ length text
  unfolding TokenOk
  word_within o e = let z : Worded text at from to = (rw e at o) in z.within

  pub quoted_upto : TokenOk text at tk → tk ≡ Quoted from to → from ≤ to
  unfolding TokenOk
  quoted_upto o e = let z : InQuotes text at from to = (rw e at o) in z.upto

  pub quoted_within : TokenOk text at tk → tk ≡ Quoted from to → to ≤ length text
  unfolding TokenOk
  quoted_within o e = let z : InQuotes text at from to = (rw e at o) in let b : to < length text = z.within in omega arith

  pub quoted_fits : TokenOk text at tk → tk ≡ Quoted from to → length text ≤ text_limit → Fits w64 (to + 1)
  unfolding TokenOk
  quoted_fits o e h = let z : InQuotes text at from to = (rw e at o) in let b : to < length text = z.within in record { fits = omega arith }
