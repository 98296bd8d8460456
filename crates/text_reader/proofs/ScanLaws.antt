-- The scanner: what each return and each loop needs. Assumes nothing.
use Prim.Native.Nat.{ℕ, suc, ◌+◌, ◌-◌, ◌≤◌, ◌<◌}
use mathlib.Core.Logic.{◌⊎◌, inl, inr}
use mathlib.Core.Path.{◌≡◌, refl, sym, ◌∙◌, ap, subst}
use mathlib.Core.List.{List, [], ◌∷◌, ◌++◌, append_assoc}
use mathlib.Core.Bool.{Bool, true, false, not}
use Rattle.std.specs.Prelude.{Result, Ok, Err}
use native.Mathlib.Omega.{arith}
use borrow.Author.Tests.{ne_eqb, eq-eqb, le-leb, lt-leb}
use borrow.Author.Tests as tests
use lib.ListN.{length, take, drop, get_or, length-drop, drop_of_length-le}
use lib.Seq.{drop-cons, take-suc, get_or-drop, length-take-le}
use Rattle.meaning.proofs.Tests.{not_true}
use Rattle.notation.specs.declared.Kind.{Kind}
use Rattle.notation.specs.declared.Kind.TheVariants.{Blank, Opens, Closes, Quotes, Plain}
use Rattle.notation.specs.Grammar.{opening, closing, dot, wrong, word, quoted, Spot, spot, kind_of, word_or_dot, ending, spots_from, quoted_from}
use Rattle.notation.specs.Faults.{first_place}
use Rattle.text_reader.proofs.KindLaws.{plain_is, blank_is}
use Rattle.text_reader.specs.declared.scan.Token.{Token}
use Rattle.text_reader.specs.declared.scan.Token.TheVariants.{End, Open, Close, Dot, Word, Quoted, Wrong}
use Rattle.text_reader.specs.Tokens.{between, spots_at, is_plain, is_blank, Signed, Worded, InQuotes, Ended, Broken, TokenOk, Skipped, WordEnds, QuoteEnds, QuoteWrong, ClosedOk, Whole}

-- ---- one byte of a text

-- from a place on stand its byte and the rest
here : (text : List ℕ) (i : ℕ) → i < length text → drop i text ≡ get_or text i 0 ∷ drop (i + 1) text
here text i h = let z : suc i ≡ i + 1 = omega arith in drop-cons text i 0 h ∙ ap (λ (n : ℕ). get_or text i 0 ∷ drop n text) z

-- nothing stands from the end on
past : (text : List ℕ) (i : ℕ) → length text ≤ i → drop i text ≡ []
past text i h = drop_of_length-le text h

between_none : (text : List ℕ) (i : ℕ) → between text i i ≡ []
between_none text i = let z : i - i ≡ 0 = omega arith in rw z

-- a byte more
between_more : (text : List ℕ) (a i : ℕ) → a ≤ i → i < length text → between text a (i + 1) ≡ between text a i ++ (get_or text i 0 ∷ [])
between_more text a i h l =
    let z : i + 1 - a ≡ suc (i - a) = omega arith in
    let y : a + (i - a) ≡ i = omega arith in
    let k : i - a < length (drop a text) = omega (arith, length-drop a text) in
    ap (λ (n : ℕ). take n (drop a text)) z
    ∙ take-suc (drop a text) (i - a) 0 k
    ∙ ap (λ (x : ℕ). take (i - a) (drop a text) ++ (x ∷ [])) (get_or-drop a text (i - a) 0 ∙ ap (λ (n : ℕ). get_or text n 0) y)

-- a byte before
between_before : (text : List ℕ) (a e : ℕ) → a < e → a < length text → between text a e ≡ get_or text a 0 ∷ between text (a + 1) e
between_before text a e h l =
    let z : e - a ≡ suc (e - (a + 1)) = omega arith in
    rw (here text a l, z)

-- as many bytes as lie between
between_length : (text : List ℕ) (a e : ℕ) → a ≤ e → e ≤ length text → length (between text a e) ≡ e - a
between_length text a e h l = length-take-le (e - a) (drop a text) (omega (arith, length-drop a text))

-- ---- what the definition does at a byte of each kind

module _ (c : ℕ) (cs : List ℕ) (i : ℕ) (w : List ℕ) where
  at_plain : kind_of c ≡ Plain → spots_from (c ∷ cs) i w ≡ spots_from cs (i + 1) (w ++ (c ∷ []))
  unfolding spots_from
  at_plain e = rw (e, spots_from)

  at_blank : kind_of c ≡ Blank → spots_from (c ∷ cs) i w ≡ ending w i (spots_from cs (i + 1) [])
  unfolding spots_from
  at_blank e = rw (e, spots_from)

  at_opens : kind_of c ≡ Opens → spots_from (c ∷ cs) i w ≡ ending w i (spot opening i ∷ spots_from cs (i + 1) [])
  unfolding spots_from
  at_opens e = rw (e, spots_from)

  at_closes : kind_of c ≡ Closes → spots_from (c ∷ cs) i w ≡ ending w i (spot closing i ∷ spots_from cs (i + 1) [])
  unfolding spots_from
  at_closes e = rw (e, spots_from)

  at_quotes : kind_of c ≡ Quotes → spots_from (c ∷ cs) i w ≡ ending w i (quoted_from cs (i + 1) i [])
  unfolding spots_from
  at_quotes e = rw (e, spots_from)

-- a byte of another kind ends the word
ends_word : (c : ℕ) (cs : List ℕ) (i : ℕ) (w : List ℕ) (k : Kind) → kind_of c ≡ k → is_plain k ≡ false → spots_from (c ∷ cs) i w ≡ ending w i (spots_from (c ∷ cs) i [])
unfolding is_plain ending
ends_word c cs i w Plain e h = not_true h
ends_word c cs i w Blank e h = at_blank c cs i w e ∙ ap (ending w i) (sym (at_blank c cs i [] e))
ends_word c cs i w Opens e h = at_opens c cs i w e ∙ ap (ending w i) (sym (at_opens c cs i [] e))
ends_word c cs i w Closes e h = at_closes c cs i w e ∙ ap (ending w i) (sym (at_closes c cs i [] e))
ends_word c cs i w Quotes e h = at_quotes c cs i w e ∙ ap (ending w i) (sym (at_quotes c cs i [] e))

-- what begins at a place
module _ (text : List ℕ) (i : ℕ) (h : i < length text) where
  spots_here : spots_at text i ≡ spots_from (get_or text i 0 ∷ drop (i + 1) text) i []
  spots_here = ap (λ (t : List ℕ). spots_from t i []) (here text i h)

  first_blank : kind_of (get_or text i 0) ≡ Blank → spots_at text i ≡ spots_at text (i + 1)
  unfolding ending
  first_blank e = spots_here ∙ at_blank (get_or text i 0) (drop (i + 1) text) i [] e

  first_opens : kind_of (get_or text i 0) ≡ Opens → spots_at text i ≡ spot opening i ∷ spots_at text (i + 1)
  unfolding ending
  first_opens e = spots_here ∙ at_opens (get_or text i 0) (drop (i + 1) text) i [] e

  first_closes : kind_of (get_or text i 0) ≡ Closes → spots_at text i ≡ spot closing i ∷ spots_at text (i + 1)
  unfolding ending
  first_closes e = spots_here ∙ at_closes (get_or text i 0) (drop (i + 1) text) i [] e

  first_quotes : kind_of (get_or text i 0) ≡ Quotes → spots_at text i ≡ quoted_from (drop (i + 1) text) (i + 1) i []
  unfolding ending
  first_quotes e = spots_here ∙ at_quotes (get_or text i 0) (drop (i + 1) text) i [] e

  first_plain : kind_of (get_or text i 0) ≡ Plain → spots_at text i ≡ spots_from (drop (i + 1) text) (i + 1) (get_or text i 0 ∷ [])
  first_plain e = spots_here ∙ at_plain (get_or text i 0) (drop (i + 1) text) i [] e

-- nothing begins at the end
spots_past : (text : List ℕ) (i : ℕ) → length text ≤ i → spots_at text i ≡ []
unfolding spots_from ending
spots_past text i h = ap (λ (t : List ℕ). spots_from t i []) (past text i h)

-- ---- skip

pub record Skipping (text : List ℕ) (at i : ℕ) : Type 0 where
  pub after : at ≤ i
  pub within : i ≤ length text
  pub is : spots_at text at ≡ spots_at text i

module _ {text : List ℕ} {at i : ℕ} (s : Skipping text at i) where
  pub skip_turn : {b : Bool} → i < length text → b ≡ is_blank (kind_of (get_or text i 0)) → not b ≡ false → Skipping text at (i + 1)
  skip_turn {b} h f n = record {
    after = omega (arith, s.after);
    within = omega arith;
    is = s.is ∙ first_blank text i h (blank_is (kind_of (get_or text i 0)) (sym f ∙ tests.not-false b n));
  }

-- ---- word_end

-- where the text ends, so does the word
last_word : (w t : List ℕ) (i : ℕ) → t ≡ [] → spots_from t i w ≡ ending w i (spots_from t i [])
unfolding spots_from ending
last_word w t i e = rw e

-- the word goes on at i
pub record Going (text : List ℕ) (at i : ℕ) : Type 0 where
  pub after : at ≤ i
  pub within : i ≤ length text
  pub is : (w : List ℕ) → spots_from (drop at text) at w ≡ spots_from (drop i text) i (w ++ between text at i)

module _ {text : List ℕ} {at i : ℕ} (s : Going text at i) where
  pub word_turn : {b : Bool} → i < length text → b ≡ is_plain (kind_of (get_or text i 0)) → not b ≡ false → Going text at (i + 1)
  word_turn {b} h f n = record {
    after = omega (arith, s.after);
    within = omega arith;
    is = λ w.
        s.is w
        ∙ ap (λ (t : List ℕ). spots_from t i (w ++ between text at i)) (here text i h)
        ∙ at_plain (get_or text i 0) (drop (i + 1) text) i (w ++ between text at i) (plain_is (kind_of (get_or text i 0)) (sym f ∙ tests.not-false b n))
        ∙ ap (spots_from (drop (i + 1) text) (i + 1)) (append_assoc w (between text at i) (get_or text i 0 ∷ []) ∙ ap (w ++◌) (sym (between_more text at i s.after h)));
  }

  pub word_found : {b : Bool} → i < length text → b ≡ is_plain (kind_of (get_or text i 0)) → not b ≡ true → WordEnds text at i
  word_found {b} h f n = record {
    after = s.after;
    within = s.within;
    is = λ w.
        s.is w
        ∙ ap (λ (t : List ℕ). spots_from t i (w ++ between text at i)) (here text i h)
        ∙ ends_word (get_or text i 0) (drop (i + 1) text) i (w ++ between text at i) (kind_of (get_or text i 0)) refl (sym f ∙ tests.not-true b n)
        ∙ ap (λ (t : List ℕ). ending (w ++ between text at i) i (spots_from t i [])) (sym (here text i h));
  }

  pub word_all : length text ≤ i → WordEnds text at (length text)
  word_all h =
      let z : i ≡ length text = omega (arith, s.within) in
      subst (λ (n : ℕ). WordEnds text at n) z (record { after = s.after; within = s.within; is = λ w. s.is w ∙ last_word (w ++ between text at i) (drop i text) i (past text i h) })

-- ---- quote_end

module _ (c : ℕ) (cs : List ℕ) (i q : ℕ) (s : List ℕ) where
  quote_closes : c ≡ 0x22 → quoted_from (c ∷ cs) i q s ≡ spot (quoted s) q ∷ spots_from cs (i + 1) []
  unfolding quoted_from
  quote_closes e = rw (eq-eqb c 0x22 e, quoted_from)

  quote_low : (c ≡ 0x22 → ⊥) → c < 0x20 → quoted_from (c ∷ cs) i q s ≡ spot wrong i ∷ []
  unfolding quoted_from
  quote_low h l = rw (ne_eqb c 0x22 h, quoted_from, lt-leb 0x20 c l)

  quote_high : (c ≡ 0x22 → ⊥) → 0x20 ≤ c → 0x7e < c → quoted_from (c ∷ cs) i q s ≡ spot wrong i ∷ []
  unfolding quoted_from
  quote_high h l m = rw (ne_eqb c 0x22 h, quoted_from, le-leb 0x20 c l, lt-leb c 0x7e m)

  quote_more : (c ≡ 0x22 → ⊥) → 0x20 ≤ c → c ≤ 0x7e → quoted_from (c ∷ cs) i q s ≡ quoted_from cs (i + 1) q (s ++ (c ∷ []))
  unfolding quoted_from
  quote_more h l m = rw (ne_eqb c 0x22 h, quoted_from, le-leb 0x20 c l, le-leb c 0x7e m)

quote_none : (i q : ℕ) (s : List ℕ) → quoted_from [] i q s ≡ spot wrong q ∷ []
unfolding quoted_from
quote_none i q s = refl

-- the quote goes on at i
pub record Quoting (text : List ℕ) (at i : ℕ) : Type 0 where
  pub after : at ≤ i
  pub within : i ≤ length text
  pub is : (q : ℕ) → quoted_from (drop at text) at q [] ≡ quoted_from (drop i text) i q (between text at i)

module _ {text : List ℕ} {at i : ℕ} (s : Quoting text at i) where
  quote_here : i < length text → (q : ℕ) → quoted_from (drop at text) at q [] ≡ quoted_from (get_or text i 0 ∷ drop (i + 1) text) i q (between text at i)
  quote_here h q = s.is q ∙ ap (λ (t : List ℕ). quoted_from t i q (between text at i)) (here text i h)

  pub quote_turn : i < length text → (get_or text i 0 ≡ 0x22 → ⊥) → 0x20 ≤ get_or text i 0 → get_or text i 0 < 0x7f → Quoting text at (i + 1)
  quote_turn h e l m = record {
    after = omega (arith, s.after);
    within = omega arith;
    is = λ q.
        quote_here h q
        ∙ quote_more (get_or text i 0) (drop (i + 1) text) i q (between text at i) e l (omega arith)
        ∙ ap (quoted_from (drop (i + 1) text) (i + 1) q) (sym (between_more text at i s.after h));
  }

  quote_found_at : i < length text → get_or text i 0 ≡ 0x22 → QuoteEnds text at i
  quote_found_at h e = record { after = s.after; within = h; is = λ q. quote_here h q ∙ quote_closes (get_or text i 0) (drop (i + 1) text) i q (between text at i) e }

-- the quote at q goes on at i
module _ {text : List ℕ} (q : ℕ) {i : ℕ} (s : Quoting text (q + 1) i) where
  pub quote_found : i < length text → get_or text i 0 ≡ 0x22 → ClosedOk text q (Ok i)
  unfolding ClosedOk
  quote_found h e = quote_found_at s h e

  pub quote_too_low : i < length text → (get_or text i 0 ≡ 0x22 → ⊥) → get_or text i 0 < 0x20 → ClosedOk text q (Err i)
  unfolding ClosedOk
  quote_too_low h e l = record { is = quote_here s h q ∙ quote_low (get_or text i 0) (drop (i + 1) text) i q (between text (q + 1) i) e l }

  pub quote_too_high : i < length text → (get_or text i 0 ≡ 0x22 → ⊥) → 0x7e < get_or text i 0 → ClosedOk text q (Err i)
  unfolding ClosedOk
  quote_too_high h e m = record { is = quote_here s h q ∙ quote_high (get_or text i 0) (drop (i + 1) text) i q (between text (q + 1) i) e (omega arith) m }

  pub quote_open : length text ≤ i → ClosedOk text q (Err q)
  unfolding ClosedOk
  quote_open h = record { is = s.is q ∙ ap (λ (t : List ℕ). quoted_from t i q (between text (q + 1) i)) (past text i h) ∙ quote_none i q (between text (q + 1) i) }

-- ---- word_from

-- one byte, and more than one
ends_dot : (i : ℕ) (ss : List Spot) → ending (0x2e ∷ []) i ss ≡ spot dot (i - 1) ∷ ss
unfolding ending word_or_dot
ends_dot i ss = refl

ends_one : (c i : ℕ) (ss : List Spot) → (c ≡ 0x2e → ⊥) → ending (c ∷ []) i ss ≡ spot (word (c ∷ [])) (i - length (c ∷ [])) ∷ ss
unfolding ending word_or_dot
ends_one c i ss h = rw (ne_eqb c 0x2e h, ending, word_or_dot)

ends_more : (c d : ℕ) (w : List ℕ) (i : ℕ) (ss : List Spot) → ending (c ∷ d ∷ w) i ss ≡ spot (word (c ∷ d ∷ w)) (i - length (c ∷ d ∷ w)) ∷ ss
unfolding ending word_or_dot
ends_more c d w i ss = refl

beyond : (a e : ℕ) → a < e → (e - a ≡ 1 → ⊥) → a + 1 < e
beyond a e l h = omega arith

module _ {text : List ℕ} {at to : ℕ} (s : Whole text at to) where
  only : to - at ≡ 1 → between text at to ≡ get_or text at 0 ∷ []
  only h =
      let z : to ≡ at + 1 = omega (arith, s.after) in
      let l : at < length text = omega (arith, s.after, s.within) in
      between_before text at to s.after l ∙ ap (get_or text at 0 ∷◌) (ap (between text (at + 1)) z ∙ between_none text (at + 1))

  -- a word begins as many bytes before its end as it has
  back_to : to - length (between text at to) ≡ at
  back_to =
      let a : at < to = s.after in
      let z : length (between text at to) ≡ to - at = between_length text at to (omega arith) s.within in
      omega arith

  pub word_dot : to - at ≡ 1 → get_or text at 0 ≡ 0x2e → TokenOk text at (Dot to)
  unfolding TokenOk
  word_dot h e = record {
    after = s.after;
    within = s.within;
    is = s.is ∙ ap (λ (w : List ℕ). ending w to (spots_at text to)) (only h ∙ ap (λ (c : ℕ). c ∷ []) e) ∙ ends_dot to (spots_at text to);
  }

  worded : ending (between text at to) to (spots_at text to) ≡ spot (word (between text at to)) (to - length (between text at to)) ∷ spots_at text to → TokenOk text at (Word at to)
  unfolding TokenOk
  worded e = record {
    after = omega arith;
    some = s.after;
    within = s.within;
    is = s.is ∙ e ∙ ap (λ (i : ℕ). spot (word (between text at to)) i ∷ spots_at text to) back_to;
  }

  -- where a word of these bytes ends
  Ending : List ℕ → Type 0
  Ending w = ending w to (spots_at text to) ≡ spot (word w) (to - length w) ∷ spots_at text to

  pub word_one : to - at ≡ 1 → (get_or text at 0 ≡ 0x2e → ⊥) → TokenOk text at (Word at to)
  unfolding Ending
  word_one h e = worded (subst (λ (w : List ℕ). Ending w) (sym (only h)) (ends_one (get_or text at 0) to (spots_at text to) e))

  pub word_more : (to - at ≡ 1 → ⊥) → TokenOk text at (Word at to)
  unfolding Ending
  word_more h =
      let k : at + 1 < to = beyond at to s.after h in
      let l : at + 1 < length text = omega (arith, s.within) in
      let m : at < length text = omega arith in
      let n : at < to = s.after in
      let b : between text at to ≡ get_or text at 0 ∷ get_or text (at + 1) 0 ∷ between text (at + 1 + 1) to
      = between_before text at to n m ∙ ap (get_or text at 0 ∷◌) (between_before text (at + 1) to k l) in
      worded (subst (λ (w : List ℕ). Ending w) (sym b) (ends_more _ _ _ _ _))

-- ---- token_here and next_token

module _ (text : List ℕ) (at : ℕ) {k : Kind} (e : k ≡ kind_of (get_or text at 0)) (h : at < length text) where
  before : at ≡ at + 1 - 1
  before = omega arith

  pub here_opens : k ≡ Opens → TokenOk text at (Open (at + 1))
  unfolding TokenOk
  here_opens f = record {
    after = omega arith;
    within = omega arith;
    is = first_opens text at h (sym e ∙ f) ∙ ap (λ (i : ℕ). spot opening i ∷ spots_at text (at + 1)) before;
  }

  pub here_closes : k ≡ Closes → TokenOk text at (Close (at + 1))
  unfolding TokenOk
  here_closes f = record {
    after = omega arith;
    within = omega arith;
    is = first_closes text at h (sym e ∙ f) ∙ ap (λ (i : ℕ). spot closing i ∷ spots_at text (at + 1)) before;
  }

  -- it is no separator
  pub here_blank : k ≡ Blank → is_blank (kind_of (get_or text at 0)) ≡ false → TokenOk text at (Wrong at)
  unfolding is_blank
  here_blank f b = not_true (ap is_blank (sym f ∙ e) ∙ b)

  pub here_word : {to : ℕ} → WordEnds text (at + 1) to → k ≡ Plain → Whole text at to
  here_word {to} s f = record {
    after = omega (arith, s.after);
    within = s.within;
    is = first_plain text at h (sym e ∙ f)
        ∙ s.is (get_or text at 0 ∷ [])
        ∙ ap (λ (w : List ℕ). ending w to (spots_at text to)) (sym (between_before text at to (omega (arith, s.after)) h));
  }

module _ (text : List ℕ) (at : ℕ) (q : Result ℕ ℕ) (s : ClosedOk text at q) (h : at < length text) (e : kind_of (get_or text at 0) ≡ Quotes) where
  before_quote : at ≡ at + 1 - 1
  before_quote = omega arith

  pub here_quoted : {to : ℕ} → q ≡ Ok to → TokenOk text at (Quoted (at + 1) to)
  unfolding TokenOk ClosedOk
  here_quoted {to} f =
      let c : QuoteEnds text (at + 1) to = rw f at s in
      record {
        after = omega arith;
        upto = c.after;
        within = c.within;
        is = first_quotes text at h e ∙ c.is at ∙ ap (λ (i : ℕ). spot (quoted (between text (at + 1) to)) i ∷ spots_at text (to + 1)) before_quote;
      }

  pub here_wrong : {i : ℕ} → q ≡ Err i → TokenOk text at (Wrong i)
  unfolding TokenOk ClosedOk
  here_wrong {i} f = let c : QuoteWrong text at i = rw f at s in record { is = first_quotes text at h e ∙ c.is }

-- separators before a token do not matter
later : (text : List ℕ) (at i : ℕ) → Skipped text at i → (t : Token) → TokenOk text i t → TokenOk text at t
unfolding TokenOk
later text at i s End o = record { is = s.is ∙ o.is }
later text at i s (Open next) o = record { after = omega (arith, s.after, o.after); within = o.within; is = s.is ∙ o.is }
later text at i s (Close next) o = record { after = omega (arith, s.after, o.after); within = o.within; is = s.is ∙ o.is }
later text at i s (Dot next) o = record { after = omega (arith, s.after, o.after); within = o.within; is = s.is ∙ o.is }
later text at i s (Word from to) o = record { after = omega (arith, s.after, o.after); some = o.some; within = o.within; is = s.is ∙ o.is }
later text at i s (Quoted from to) o = record { after = omega (arith, s.after, o.after); upto = o.upto; within = o.within; is = s.is ∙ o.is }
later text at i s (Wrong j) o = record { is = s.is ∙ o.is }

pub then_token : {text : List ℕ} {at i : ℕ} (t : Token) → TokenOk text i t → Skipped text at i → TokenOk text at t
then_token {text} {at} {i} t o s = later text at i s t o

pub no_token : {text : List ℕ} {at i : ℕ} → Skipped text at i → length text ≤ i → TokenOk text at End
unfolding TokenOk
no_token {text} {at} {i} s h = record { is = s.is ∙ spots_past text i h }

-- ---- next_place

module _ (text : List ℕ) (at : ℕ) (tk : Token) (o : TokenOk text at tk) where
  -- the place of the first of these tokens
  stands : (t : List Spot) → spots_at text at ≡ t → first_place (spots_at text at) (length text) ≡ first_place t (length text)
  stands t i = ap (λ (ss : List Spot). first_place ss (length text)) i

  -- a token of one sign
  pub place_sign : (next : ℕ) → (tk ≡ Open next) ⊎ ((tk ≡ Close next) ⊎ (tk ≡ Dot next)) → next - 1 ≡ first_place (spots_at text at) (length text)
  unfolding TokenOk first_place
  place_sign next (inl e) = let z : Signed text at next opening = (rw e at o) in sym (stands _ z.is)
  place_sign next (inr (inl e)) = let z : Signed text at next closing = (rw e at o) in sym (stands _ z.is)
  place_sign next (inr (inr e)) = let z : Signed text at next dot = (rw e at o) in sym (stands _ z.is)

  pub place_word : (from to : ℕ) → tk ≡ Word from to → from ≡ first_place (spots_at text at) (length text)
  unfolding TokenOk first_place
  place_word from to e = let z : Worded text at from to = (rw e at o) in sym (stands _ z.is)

  pub place_quoted : (from to : ℕ) → tk ≡ Quoted from to → from - 1 ≡ first_place (spots_at text at) (length text)
  unfolding TokenOk first_place
  place_quoted from to e = let z : InQuotes text at from to = (rw e at o) in sym (stands _ z.is)

  pub place_wrong : (i : ℕ) → tk ≡ Wrong i → i ≡ first_place (spots_at text at) (length text)
  unfolding TokenOk first_place
  place_wrong i e = let z : Broken text at i = (rw e at o) in sym (stands _ z.is)

  pub place_end : tk ≡ End → length text ≡ first_place (spots_at text at) (length text)
  unfolding TokenOk first_place
  place_end e = let z : Ended text at = (rw e at o) in sym (stands _ z.is)

  -- there is a byte before what follows a token
  pub sign_some : (next : ℕ) → (tk ≡ Open next) ⊎ ((tk ≡ Close next) ⊎ (tk ≡ Dot next)) → 1 ≤ next
  unfolding TokenOk
  sign_some next (inl e) = let z : Signed text at next opening = (rw e at o) in omega (arith, z.after)
  sign_some next (inr (inl e)) = let z : Signed text at next closing = (rw e at o) in omega (arith, z.after)
  sign_some next (inr (inr e)) = let z : Signed text at next dot = (rw e at o) in omega (arith, z.after)

  pub quoted_some : (from to : ℕ) → tk ≡ Quoted from to → 1 ≤ from
  unfolding TokenOk
  quoted_some from to e = let z : InQuotes text at from to = (rw e at o) in omega (arith, z.after)
