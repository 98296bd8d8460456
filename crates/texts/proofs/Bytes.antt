-- read_text, write_text and optimise_text: what each call and each return needs. Assumes nothing.
use Prim.Native.Nat.{ℕ, ◌<◌, ◌≤◌}
use mathlib.Core.Path.{◌≡◌, refl, sym, ◌∙◌, ap, subst}
use mathlib.Core.List.{List, [], ◌∷◌}
use lib.ListN.{length, take}
use lib.Seq.{length-take-le}
use native.Mathlib.Omega.{arith}
use Rattle.std.specs.Prelude.{Result, Ok, Err, Option, Some, None}
use Rattle.std.specs.Option.{ok_or}
use Rattle.refusals.specs.declared.Refusal.{Refusal}
use Rattle.refusals.specs.declared.Refusal.TheVariants.{RoomSmall, OutputShort}
use Rattle.meaning.specs.Limits.{room_least, form_limit}
use Rattle.meaning.specs.Form.{read_form}
use Rattle.meaning.specs.Outcome.{Outcome, Told, ended, zeroed, Delivers, Settles}
use Rattle.meaning.specs.Run.{mark_number, worked_on, worked}
use Rattle.meaning.proofs.Late.{late_read}
use Rattle.meaning.proofs.Lent.{Zeros, zeroed_same, zeros_tree, room_enough, ended_refused, ended_done, small_settles, zeroed_settles}
use Rattle.store.specs.declared.Made.{Made}
use Rattle.store.specs.Nodes.{tree_at}
use Rattle.form.specs.declared.Written.{Written}
use Rattle.form.specs.Spans.{Stops, stops}
use Rattle.form.specs.Reads.{WholeTo, WholeOk}
use Rattle.form.specs.Writes.{Writable, Delivered}
use Rattle.form.specs.Bytes.{delivered_write, write_outcome, write_says}
use Rattle.run_state.specs.declared.Work.{Work}
use Rattle.run_state.specs.Work.{spent_of, StoppedBy}
use Rattle.optimiser.specs.declared.Finished.{Finished}
use Rattle.optimiser.specs.declared.Report.{Report}
use Rattle.optimiser.specs.Optimised.{says}
use Rattle.optimiser.specs.Worked.{WorkedTo, WorkedOk}
use Rattle.notation.specs.Texts.{text_of}
use Rattle.notation.specs.Grammar.{read_text}
use Rattle.text_reader.specs.Converts.{Converts, NotConverted, ConvertedOk}
use Rattle.texts.specs.Outcomes.{read_text_outcome, delivered_text, write_text_outcome, delivered_run, optimise_text_outcome}
use Rattle.texts.proofs.Touching.{touched_zeroing, text_zeroing, run_zeroing, zeros_worked, zeros_text}
use Rattle.texts.proofs.Telling.{text_over, text_fits}

-- ---- a text that was converted, or not

module _ (text f : List ℕ) (x : Result ℕ Refusal) (o : ConvertedOk text f x) where
  pub converted_to : (n : ℕ) → x ≡ Ok n → Converts text f n
  unfolding ConvertedOk
  converted_to n e = rw e at o

  pub converted_short : (n : ℕ) → x ≡ Ok n → n ≤ form_limit
  converted_short n e = (converted_to n e).within

  pub converted_within : (n : ℕ) → x ≡ Ok n → form_limit ≤ length f → n ≤ length f
  converted_within n e h = let c = converted_short n e in omega arith

  -- as many bytes are lent
  pub converted_count : (n : ℕ) → x ≡ Ok n → form_limit ≤ length f → n ≡ length (take n f)
  converted_count n e h = sym (length-take-le n f (converted_within n e h))

  pub unconverted : (r : Refusal) → x ≡ Err r → (u : ℕ) → Stops (read_text text u) r
  unfolding ConvertedOk
  unconverted r e u = let c : NotConverted text r = rw e at o in c.is u

-- ---- read_text

module _ (text s w : List ℕ) where
  abbrev read : Outcome
  read = ended (delivered_write (length w)) (read_text text 0)

  read_zeros : Zeros read
  unfolding delivered_write
  read_zeros = zeros_worked (delivered_write (length w)) (λ t x. zeros_tree (length w) t (x.units ∷ [])) (read_text text 0) (text_zeroing text 0)

  pub read_small : length s < room_least → Settles write_says (read_text_outcome text (length s) (length w)) s s w w (Err RoomSmall)
  unfolding read_text_outcome write_says
  read_small h = small_settles write_says read s w (Err RoomSmall) refl h

  module _ (s₁ f : List ℕ) (h : room_least ≤ length s) (same : length s₁ ≡ length s) (x : Result ℕ Refusal) (o : ConvertedOk text f x) where
    pub read_refused : (n : Refusal) (s₂ : List ℕ) → s₂ ≡ zeroed s₁ → x ≡ Err n → Settles write_says (read_text_outcome text (length s) (length w)) s s₂ w w (Err n)
    unfolding read_text_outcome write_says
    read_refused n s₂ z e = zeroed_settles write_says read s s₁ s₂ w w (Err n) (go (unconverted text f x o n e 0)) read_zeros h z same
      where
        go : Stops (read_text text 0) n → Delivers write_says read w w (Err n)
        go (stops y i) = ended_refused write_says (delivered_write (length w)) (read_text text 0) n y w (Err n) i refl

    -- what `write` makes of the form is the outcome
    pub read_written : (n : ℕ) (s₂ w₁ : List ℕ) (a : Result Written Refusal) → x ≡ Ok n → Settles write_says (write_outcome (take n f) (length s₁) (length w)) s₁ s₂ w w₁ a
        → Settles write_says (read_text_outcome text (length s) (length w)) s s₂ w w₁ a
    unfolding read_text_outcome write_outcome
    read_written n s₂ w₁ a e k =
        let i : read_text text 0 ≡ read_form (take n f) 0 = (converted_to text f x o n e).is 0 in
        let j : Settles write_says (ended (delivered_write (length w)) (read_form (take n f) 0)) s₁ s₂ w w₁ a = rw (room_enough (length s₁) (ended (delivered_write (length w)) (read_form (take n f) 0)) (subst (λ (m : ℕ). room_least ≤ m) (sym same) h)) at k in
        let l : Settles write_says read s₁ s₂ w w₁ a = rw i j in
        rw (room_enough (length s) read h) (record { delivers = l.delivers; room = l.room ∙ read_zeros.so s₁ ∙ zeroed_same s₁ s same ∙ sym (read_zeros.so s) })

-- ---- no room for the text

pub no_text : {A : Type 0} (says : Result A Refusal → Told) (o : Outcome) (w w₁ : List ℕ) (r : Option ℕ) (n : Refusal) → Err n ≡ ok_or r OutputShort → r ≡ None → Delivers says o w w₁ (Err OutputShort) → Delivers says o w w₁ (Err n)
no_text {A} says o w w₁ r n v i d =
    let y : ◌≡◌ {A = Result ℕ Refusal} (Err n) (Err OutputShort) = rw i at v in
    let j : n ≡ OutputShort = cc in
    rw j d

-- ---- write_text

module _ (f w : List ℕ) where
  abbrev wrote : Outcome
  wrote = ended (delivered_text (length w)) (read_form f 0)

  module _ (s₁ : List ℕ) (m : Result Made Refusal) (o : WholeOk f s₁ m) where
    pub form_refused : (n : Refusal) → m ≡ Err n → Delivers write_says wrote w w (Err n)
    unfolding write_says WholeOk
    form_refused n e = go (rw e at o)
      where
        go : Stops (read_form f 0) n → Delivers write_says wrote w w (Err n)
        go (stops y i) = ended_refused write_says (delivered_text (length w)) (read_form f 0) n y w (Err n) i refl

    module _ (x : Made) (e : m ≡ Ok x) (w₁ : List ℕ) (r : Option ℕ) (d : Delivered (text_of (tree_at f s₁ x.node)) w w₁ r) where
      whole : WholeTo f s₁ x.ch x.node
      unfolding WholeOk
      whole = rw e at o

      told_so : (a : Result Written Refusal) → Delivers write_says (delivered_text (length w) (tree_at f s₁ x.node) (record { left = []; units = x.ch.units })) w w₁ a → Delivers write_says wrote w w₁ a
      told_so a k = ended_done write_says (delivered_text (length w)) (read_form f 0) (tree_at f s₁ x.node) _ w w₁ a whole.is k

      pub form_over : (n : Refusal) → Err n ≡ ok_or r OutputShort → r ≡ None → Delivers write_says wrote w w₁ (Err n)
      unfolding delivered_text write_says
      form_over n v i = no_text write_says wrote w w₁ r n v i (told_so (Err OutputShort) (text_over write_says (tree_at f s₁ x.node) (x.ch.units ∷ []) w w₁ r d (Err OutputShort) refl i))

      pub form_fits : (k : ℕ) → r ≡ Some k → Delivers write_says wrote w w₁ (Ok (record { length = k; units = x.ch.units }))
      unfolding delivered_text write_says
      form_fits k i = told_so _ (text_fits write_says (tree_at f s₁ x.node) (x.ch.units ∷ []) w w₁ r d _ k refl i)

  write_zeros : Zeros wrote
  unfolding delivered_text
  write_zeros = zeros_worked (delivered_text (length w)) (λ t x. zeros_text (length w) t (x.units ∷ [])) (read_form f 0) (touched_zeroing (read_form f 0) (late_read f 0))

  module _ (s : List ℕ) where
    pub write_small : length s < room_least → Settles write_says (write_text_outcome f (length s) (length w)) s s w w (Err RoomSmall)
    unfolding write_text_outcome write_says
    write_small h = small_settles write_says wrote s w (Err RoomSmall) refl h

    pub write_done : (s₁ s₂ w₁ : List ℕ) (a : Result Written Refusal) → Delivers write_says wrote w w₁ a → s₂ ≡ zeroed s₁ → length s₁ ≡ length s → room_least ≤ length s
        → Settles write_says (write_text_outcome f (length s) (length w)) s s₂ w w₁ a
    unfolding write_text_outcome
    write_done s₁ s₂ w₁ a d z same h = zeroed_settles write_says wrote s s₁ s₂ w w₁ a d write_zeros h z same

-- ---- optimise_text

module _ (f w : List ℕ) where
  abbrev ran : Outcome
  ran = ended (delivered_run (length w)) (worked f)

  module _ (s : List ℕ) (x : Result Finished Refusal) (o : WorkedOk f s x) where
    pub run_refused : (n : Refusal) → x ≡ Err n → Delivers says ran w w (Err n)
    unfolding WorkedOk says
    run_refused n e = let by : StoppedBy n (worked f) = rw e at o in ended_refused says (delivered_run (length w)) (worked f) n by.after w (Err n) by.stops refl

    module _ (y : Finished) (e : x ≡ Ok y) where
      abbrev n : ℕ
      n = y.node

      abbrev k : Work
      k = y.work

      to : WorkedTo f s n k
      unfolding WorkedOk
      to = rw e at o

      pub run_writable : Writable f s n
      run_writable = to.writable

      module _ (w₁ : List ℕ) (r : Option ℕ) (d : Delivered (text_of (tree_at f s n)) w w₁ r) where
        abbrev numbers : List ℕ
        numbers = k.passes ∷ k.ch.units ∷ mark_number k.mark ∷ []

        told_of_run : (a : Result Report Refusal) → Delivers says (delivered_run (length w) (tree_at f s n) (spent_of k)) w w₁ a → Delivers says ran w w₁ a
        told_of_run a h = ended_done says (delivered_run (length w)) (worked f) (tree_at f s n) (spent_of k) w w₁ a to.is h

        pub run_over : (u : Refusal) → Err u ≡ ok_or r OutputShort → r ≡ None → Delivers says ran w w₁ (Err u)
        unfolding delivered_run says
        run_over u v i = no_text says ran w w₁ r u v i (told_of_run (Err OutputShort) (text_over says (tree_at f s n) numbers w w₁ r d (Err OutputShort) refl i))

        pub run_fits : (j : ℕ) → r ≡ Some j → Delivers says ran w w₁ (Ok (record { length = j; passes = k.passes; units = k.ch.units; mark = k.mark }))
        unfolding delivered_run says
        run_fits j i = told_of_run _ (text_fits says (tree_at f s n) numbers w w₁ r d _ j refl i)

module _ (text w : List ℕ) where
  abbrev optimised : Outcome
  optimised = ended (delivered_run (length w)) (worked_on (read_text text 0))

  module _ (f : List ℕ) (x : Result ℕ Refusal) (o : ConvertedOk text f x) where
    pub run_unconverted : (n : Refusal) → x ≡ Err n → Delivers says optimised w w (Err n)
    unfolding says worked_on
    run_unconverted n e = go (unconverted text f x o n e 0)
      where
        go : Stops (read_text text 0) n → Delivers says optimised w w (Err n)
        go (stops y i) = ended_refused says (delivered_run (length w)) (worked_on (read_text text 0)) n _ w (Err n) (ap worked_on i) refl

    pub run_converted : (n : ℕ) → x ≡ Ok n → (w₁ : List ℕ) (a : Result Report Refusal) → Delivers says (ran (take n f) w) w w₁ a → Delivers says optimised w w₁ a
    unfolding worked
    run_converted n e w₁ a d = let i : read_text text 0 ≡ read_form (take n f) 0 = (converted_to text f x o n e).is 0 in rw i d

  optimise_zeros : Zeros optimised
  unfolding delivered_run
  optimise_zeros = zeros_worked (delivered_run (length w)) (λ t x. zeros_text (length w) t (x.passes ∷ x.units ∷ mark_number x.mark ∷ [])) (worked_on (read_text text 0)) (run_zeroing text)

  module _ (s : List ℕ) where
    pub optimise_small : length s < room_least → Settles says (optimise_text_outcome text (length s) (length w)) s s w w (Err RoomSmall)
    unfolding optimise_text_outcome says
    optimise_small h = small_settles says optimised s w (Err RoomSmall) refl h

    pub optimise_done : (s₁ s₂ w₁ : List ℕ) (a : Result Report Refusal) → Delivers says optimised w w₁ a → s₂ ≡ zeroed s₁ → length s₁ ≡ length s → room_least ≤ length s
        → Settles says (optimise_text_outcome text (length s) (length w)) s s₂ w w₁ a
    unfolding optimise_text_outcome
    optimise_done s₁ s₂ w₁ a d z same h = zeroed_settles says optimised s s₁ s₂ w w₁ a d optimise_zeros h z same
