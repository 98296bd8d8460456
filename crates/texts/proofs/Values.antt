-- evaluate_text: what each call and each return needs. Assumes nothing.
use Prim.Native.Nat.{ℕ, ◌+◌, ◌-◌, ◌<◌, ◌≤◌}
use mathlib.Core.Path.{◌≡◌, refl, sym, ◌∙◌, ap, ap₂}
use mathlib.Core.List.{List, [], ◌∷◌, ◌++◌}
use mathlib.Core.Option.{some}
use lib.ListN.{length, take, drop, length-drop}
use lib.Seq.{take_all, take_at, drop_at, take-append-le, take-append-add, length-take-le}
use native.Mathlib.Omega.{arith}
use mir.Syntax.{w64}
use mir.Val.{Fits}
use Rattle.std.specs.Prelude.{Result, Ok, Err, Option, Some, None}
use Rattle.std.specs.Option.{ok_or}
use Rattle.refusals.specs.declared.Refusal.{Refusal}
use Rattle.refusals.specs.declared.Refusal.TheVariants.{RoomSmall, OutputShort}
use Rattle.refusals.specs.Numbers.{number_of}
use Rattle.meaning.specs.Tree.{Tree}
use Rattle.meaning.specs.Limits.{room_least, form_limit}
use Rattle.meaning.specs.Meter.{Out, done, stop, Steps}
use Rattle.meaning.specs.Form.{Reading, read_form}
use Rattle.meaning.specs.Outcome.{Outcome, ended, zeroed, number, Delivers, Settles}
use Rattle.meaning.proofs.Lent.{Zeros, refusal_delivered, ended_refused, ended_done, small_settles, zeroed_settles}
use Rattle.store.specs.declared.Made.{Made}
use Rattle.store.specs.Nodes.{tree_at}
use Rattle.form.specs.Spans.{Stops, stops}
use Rattle.form.specs.Reads.{WholeTo, WholeOk}
use Rattle.form.specs.Writes.{Delivered}
use Rattle.form.specs.Both.{Both, read_both, Cut}
use Rattle.form.proofs.Spans.{same_stops}
use Rattle.form.proofs.Lend.{lent, back, back_length}
use Rattle.evaluator.specs.declared.Valued.{Valued}
use Rattle.evaluator.specs.Values.{state, stopped}
use Rattle.evaluation.specs.declared.Evaluated.{Evaluated}
use Rattle.evaluation.specs.Bytes.{worked_on, worked, says}
use Rattle.evaluation.specs.Work.{WorkedTo, WorkedOk}
use Rattle.notation.specs.Texts.{text_of}
use Rattle.notation.specs.Grammar.{read_text}
use Rattle.text_reader.specs.Converts.{Converts, ConvertedOk}
use Rattle.texts.specs.declared.Forms.{Forms}
use Rattle.texts.specs.Outcomes.{read_texts, delivered_value, evaluate_text_outcome}
use Rattle.texts.specs.Converting.{forms_most, Reads, reads, FirstTo, FirstOk, BothTo, BothOk}
use Rattle.texts.proofs.Touching.{value_zeroing, zeros_worked, zeros_text}
use Rattle.texts.proofs.Telling.{text_over, text_fits}
use Rattle.texts.proofs.Bytes.{converted_to, converted_short, unconverted, no_text}

-- ---- the program's form

module _ (text f : List ℕ) (x : Result ℕ Refusal) (o : ConvertedOk text f x) where
  pub first_unconverted : (r : Refusal) → x ≡ Err r → FirstOk text f (Err r)
  unfolding FirstOk
  first_unconverted r e = unconverted text f x o r e 0

  module _ (n : ℕ) (e : x ≡ Ok n) (s : List ℕ) (m : Result Made Refusal) (k : WholeOk (take n f) s m) where
    pub first_refused : (r : Refusal) → m ≡ Err r → FirstOk text f (Err r)
    unfolding FirstOk WholeOk
    first_refused r i = same_stops ((converted_to text f x o n e).is 0) (rw i at k)

    pub first_read : (a : Made) → m ≡ Ok a → FirstOk text f (Ok n)
    unfolding FirstOk WholeOk
    first_read a i =
        let y : WholeTo (take n f) s a.ch a.node = rw i at k in
        record { converts = converted_to text f x o n e; read = reads (tree_at (take n f) s a.node) _ ((converted_to text f x o n e).is 0 ∙ y.is) }

-- ---- both forms

module _ (p e : List ℕ) where
  first_stops : (n : Refusal) → Stops (read_text p 0) n → Stops (read_texts p e) n
  unfolding read_texts
  first_stops n (stops s h) = stops s (rw (h, read_texts))

  second_stops : (n : Refusal) → Reads (read_text p 0) → ((u : ℕ) → Stops (read_text e u) n) → Stops (read_texts p e) n
  unfolding read_texts
  second_stops n (reads t s h) k = go (k s.units)
    where
      go : Stops (read_text e s.units) n → Stops (read_texts p e) n
      go (stops r i) = stops r (rw (h, i, read_texts))

  -- texts that are read as forms are, whatever is charged
  same_both : (a b : List ℕ) → ((u : ℕ) → read_text p u ≡ read_form a u) → ((u : ℕ) → read_text e u ≡ read_form b u) → read_texts p e ≡ read_both a b
  unfolding read_texts read_both
  same_both a b h k = rw (h 0, read_texts) (go (read_form a 0))
    where
      go : (o : Out Reading Tree) → ◌≡◌ {A = Out Reading Both} (elim o [
        | done t s ↦ elim (read_text e s.units) [ done u r ↦ done (record { one = t; other = u }) r | stop n r ↦ stop n r ]
        | stop n s ↦ stop n s
      ]) (elim o [
        | done t s ↦ elim (read_form b s.units) [ done u r ↦ done (record { one = t; other = u }) r | stop n r ↦ stop n r ]
        | stop n s ↦ stop n s
      ])
      go (done t s) = rw (k s.units)
      go (stop n s) = refl

-- what is lent from a on is all that follows
rest_is : (xs : List ℕ) (a : ℕ) → lent xs a ≡ drop a xs
rest_is xs a = take_all (length xs - a) (drop a xs) (simp length-drop (omega arith))

rest_long : (xs : List ℕ) (a : ℕ) → length (lent xs a) ≡ length xs - a
rest_long xs a = ap (λ (l : List ℕ). length l) (rest_is xs a) ∙ length-drop a xs

module _ (f g : List ℕ) (n m : ℕ) (h : n ≤ length f) (k : m ≤ length g) where
  abbrev after : List ℕ
  after = drop (length f - n) (drop n f)

  front : length (take n f) ≡ n
  front = length-take-le n f h

  -- n bytes of f, and m of what came back behind them
  both_bytes : take (n + m) (back f n g) ≡ take n f ++ take m g
  both_bytes =
      ap (λ (j : ℕ). take (j + m) (back f n g)) (sym front)
      ∙ take-append-add (take n f) (g ++ after) m
      ∙ ap (λ (z : List ℕ). take n f ++ z) (take-append-le m g after k)

  first_bytes : take n (take (n + m) (back f n g)) ≡ take n f
  first_bytes = ap (take n) both_bytes ∙ take_at (take n f) (take m g) n front

  second_bytes : drop n (take (n + m) (back f n g)) ≡ take m g
  second_bytes = ap (drop n) both_bytes ∙ drop_at (take n f) (take m g) n front

-- the texts t, of which mid bytes are the program's
module _ (t f : List ℕ) (mid : ℕ) (x : Result ℕ Refusal) (o : FirstOk (take mid t) f x) where
  pub program_refused : (r : Refusal) → x ≡ Err r → BothOk (take mid t) (drop mid t) f (Err r)
  unfolding FirstOk BothOk
  program_refused r e = first_stops (take mid t) (drop mid t) r (rw e at o)

  module _ (n : ℕ) (e : x ≡ Ok n) where
    first_to : FirstTo (take mid t) f n
    unfolding FirstOk
    first_to = rw e at o

    pub program_short : n ≤ form_limit
    program_short = first_to.converts.within

    pub program_within : forms_most ≤ length f → n ≤ length f
    program_within h = let l = program_short in omega arith

    pub environment_room : forms_most ≤ length f → form_limit ≤ length (lent f n)
    environment_room h = let l = program_short in let k = rest_long f n in omega arith

    module _ (g : List ℕ) (y : Result ℕ Refusal) (k : ConvertedOk (lent t mid) g y) where
      pub environment_refused : (r : Refusal) → y ≡ Err r → BothOk (take mid t) (drop mid t) (back f n g) (Err r)
      unfolding BothOk
      environment_refused r i = second_stops (take mid t) (drop mid t) r first_to.read (λ u. rw (rest_is t mid) at (unconverted (lent t mid) g y k r i u))

      pub sum_small : (m : ℕ) → y ≡ Ok m → Fits w64 (n + m)
      sum_small m i = let l = program_short in let c = converted_short (lent t mid) g y k m i in record { fits = omega arith }

      pub environment_read : (m : ℕ) → y ≡ Ok m → length g ≡ length (lent f n) → forms_most ≤ length f → BothOk (take mid t) (drop mid t) (back f n g) (Ok (record { first = n; both = n + m }))
      unfolding BothOk
      environment_read m i same h =
          let c : Converts (lent t mid) g m = converted_to (lent t mid) g y k m i in
          let p : n ≤ length f = program_within h in
          let l : form_limit ≤ length (lent f n) = environment_room h in
          let q : m ≤ length g = omega (arith, c.within) in
          let b : length (back f n g) ≡ length f = back_length f n g same in
          record {
            within = let s = program_short in omega (arith, c.within);
            is =
                same_both (take mid t) (drop mid t) (take n f) (take m g) first_to.converts.is (λ u. rw (rest_is t mid) at (c.is u))
                ∙ ap₂ read_both (sym (first_bytes f g n m p q)) (sym (second_bytes f g n m p q));
          }

-- ---- delivering

module _ (v : Out Steps Tree) (w : List ℕ) where
  abbrev valued : Outcome
  valued = ended (delivered_value (length w)) v

  module _ (f s : List ℕ) (a : Result Valued Refusal) (o : WorkedOk f s v a) where
    pub value_refused : (n : Refusal) → a ≡ Err n → Delivers says valued w w (Err n)
    unfolding WorkedOk stopped says ended
    value_refused n e = go v (rw e at o)
      where
        go : (x : Out Steps Tree) → stopped x ≡ some n → Delivers says (ended (delivered_value (length w)) x) w w (Err n)
        go (done t y) i = absurd (let j : ◌≡◌ {A = ℕ} 0 1 = cc in omega arith)
        go (stop m y) i = let j : number (number_of n) ≡ number (number_of m) = cc in refusal_delivered says m w (Err n) j

    module _ (x : Valued) (e : a ≡ Ok x) (w₁ : List ℕ) (r : Option ℕ) (d : Delivered (text_of (tree_at f s x.node)) w w₁ r) where
      abbrev counts : List ℕ
      counts = x.meter.steps ∷ x.meter.ch.units ∷ []

      to : WorkedTo f s x.meter x.node v
      unfolding WorkedOk
      to = rw e at o

      told_so : (b : Result Evaluated Refusal) → Delivers says (delivered_value (length w) (tree_at f s x.node) (state x.meter)) w w₁ b → Delivers says valued w w₁ b
      told_so b h = ended_done says (delivered_value (length w)) v (tree_at f s x.node) (state x.meter) w w₁ b to.is h

      pub value_over : (n : Refusal) → Err n ≡ ok_or r OutputShort → r ≡ None → Delivers says valued w w₁ (Err n)
      unfolding delivered_value says
      value_over n u i = no_text says valued w w₁ r n u i (told_so (Err OutputShort) (text_over says (tree_at f s x.node) counts w w₁ r d (Err OutputShort) refl i))

      pub value_fits : (k : ℕ) → r ≡ Some k → Delivers says valued w w₁ (Ok (record { length = k; steps = x.meter.steps; units = x.meter.ch.units }))
      unfolding delivered_value says
      value_fits k i = told_so _ (text_fits says (tree_at f s x.node) counts w w₁ r d _ k refl i)

-- ---- both texts

module _ (p e f : List ℕ) (x : Result Forms Refusal) (o : BothOk p e f x) (y : Forms) (i : x ≡ Ok y) where
  pub both_within : y.both ≤ length f
  unfolding BothOk
  both_within = let z : BothTo p e f y.first y.both = rw i at o in z.within

  -- as many bytes are lent
  pub both_count : y.both ≡ length (take y.both f)
  both_count = sym (length-take-le y.both f both_within)

module _ (t w : List ℕ) (first : ℕ) where
  abbrev read : Out Reading Both
  read = read_texts (take first t) (drop first t)

  abbrev value : Outcome
  value = valued (worked_on read) w

  module _ (mid : ℕ) (c : Cut t first mid) (f : List ℕ) (x : Result Forms Refusal) (o : BothOk (take mid t) (drop mid t) f x) where
    at_first : BothOk (take first t) (drop first t) f x
    at_first = rw (← c.front, ← c.back) o

    pub both_refused : (n : Refusal) → x ≡ Err n → Delivers says value w w (Err n)
    unfolding says worked_on BothOk
    both_refused n e = go (rw e at at_first)
      where
        go : Stops read n → Delivers says value w w (Err n)
        go (stops y i) = ended_refused says (delivered_value (length w)) (worked_on read) n _ w (Err n) (ap worked_on i) refl

    pub both_valued : (z : Forms) → x ≡ Ok z → (w₁ : List ℕ) (a : Result Evaluated Refusal) → Delivers says (valued (worked (take z.first (take z.both f)) (drop z.first (take z.both f))) w) w w₁ a → Delivers says value w w₁ a
    unfolding worked BothOk
    both_valued z e w₁ a d = let y : BothTo (take first t) (drop first t) f z.first z.both = rw e at at_first in rw y.is d

  -- ---- the whole

  zeros : Zeros value
  unfolding delivered_value
  zeros = zeros_worked (delivered_value (length w)) (λ u x. zeros_text (length w) u (x.steps ∷ x.units ∷ [])) (worked_on read) (value_zeroing (take first t) (drop first t))

  module _ (s : List ℕ) where
    pub evaluate_small : length s < room_least → Settles says (evaluate_text_outcome t first (length s) (length w)) s s w w (Err RoomSmall)
    unfolding evaluate_text_outcome says
    evaluate_small h = small_settles says value s w (Err RoomSmall) refl h

    pub evaluate_done : (s₁ s₂ w₁ : List ℕ) (a : Result Evaluated Refusal) → Delivers says value w w₁ a → s₂ ≡ zeroed s₁ → length s₁ ≡ length s → room_least ≤ length s
        → Settles says (evaluate_text_outcome t first (length s) (length w)) s s₂ w w₁ a
    unfolding evaluate_text_outcome
    evaluate_done s₁ s₂ w₁ a d z same h = zeroed_settles says value s s₁ s₂ w w₁ a d zeros h z same
