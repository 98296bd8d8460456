-- The line that is printed is the outcome's. Assumes nothing.
use Rattle.std.specs.Prelude.{Result, Ok, Err, Option, Some, None}
use mathlib.Core.Path.{◌≡◌, sym, ◌∙◌, ap, subst}
use mathlib.Core.List.{List, [], ◌∷◌}
use Prim.Native.Nat.{ℕ, ◌≤◌}
use lib.ListN.{length, take, drop}
use mir.Val.{bool_byte}
use Rattle.refusals.specs.declared.Refusal.{Refusal}
use Rattle.refusals.specs.Numbers.{number_of}
use Rattle.meaning.specs.Outcome.{Outcome, plain, values, Settles}
use Rattle.meaning.proofs.Lent.{Answers, told_answer}
use Rattle.optimiser.specs.declared.Report.{Report}
use Rattle.optimiser.specs.Optimised.{says}
use Rattle.evaluation.specs.declared.Evaluated.{Evaluated}
use Rattle.evaluation.specs.Bytes as evaluation
use Rattle.form.specs.declared.Written.{Written}
use Rattle.form.specs.Bytes.{write_says}
use Rattle.texts.specs.Outcomes.{read_text_outcome, write_text_outcome, optimise_text_outcome, evaluate_text_outcome}
use Rattle.lines.specs.Text.{Printed, numbers_text, numbers_line, no_number}
use Rattle.lines.proofs.Printing.{joined}
use Rattle.outcome.specs.Line.{line_with, ok_line, line_of}
use Rattle.outcome.proofs.Laws.{Stands, count, line_stands, stands, refusal_told, mark_byte}
use Rattle.texts.specs.Faults.{fault_outcome, fault_says}
use Rattle.text_line.specs.Line.{ok_text, text_and, text_line, bare_line, fault_words, fault_line}
use Rattle.text_line.proofs.Counts.{read_counted, written_counted, optimised_counted, evaluated_counted}

-- ---- what is printed piece by piece

module _ (bs s t u : List ℕ) (at a k : ℕ) where
  pub ok_printed : Printed bs t u a k → Printed (111 ∷ 107 ∷ 32 ∷ []) s t at a → Printed (ok_text bs) s u at k
  unfolding ok_text
  ok_printed h g = joined (111 ∷ 107 ∷ 32 ∷ []) bs s t u at a k h g

  pub answer_printed : (ns : List ℕ) → Printed (numbers_line ns) t u a k → Printed (ok_text bs) s t at a → Printed (text_and bs ns) s u at k
  unfolding text_and
  answer_printed ns h g = joined (ok_text bs) (numbers_line ns) s t u at a k h g

  pub bare_printed : Printed (10 ∷ []) t u a k → Printed (ok_text bs) s t at a → Printed (text_and bs []) s u at k
  unfolding text_and numbers_line numbers_text
  bare_printed h g = joined (ok_text bs) (10 ∷ []) s t u at a k h g

-- ---- the line of an answer whose bytes stand at the front of the output

module _ (o : Outcome) (w : List ℕ) (n : ℕ) (ns : List ℕ) (h : Stands o w n ns) where
  hex_stands : ok_line (take n w) ns ≡ line_of o
  unfolding line_of
  hex_stands = line_stands (λ bytes ms. ok_line bytes (drop 1 ms)) o w n ns h

  text_stands : text_and (take n w) ns ≡ text_line o
  unfolding text_line
  text_stands = line_stands (λ bytes ms. text_and bytes (drop 1 ms)) o w n ns h

  bare_stands : text_and (take n w) [] ≡ bare_line o
  unfolding bare_line
  bare_stands = line_stands (λ bytes ms. text_and bytes []) o w n ns h

-- ---- `read_text`

module _ (f s w s' w' : List ℕ) (a : Result Written Refusal) (h : Settles write_says (read_text_outcome f (length s) (length w)) s s' w w' a) where
  module _ (v : Written) (e : a ≡ Ok v) where
    abbrev n₁ : ℕ
    n₁ = v.length

    abbrev units₁ : ℕ
    units₁ = v.units

    read : Stands (read_text_outcome f (length s) (length w)) w' n₁ (units₁ ∷ [])
    unfolding write_says
    read = stands write_says (read_text_outcome f (length s) (length w)) s s' w w' a h (length w) _ _ (read_counted f (length s) (length w)) (ap write_says e)

    pub read_fits : n₁ ≤ length w'
    read_fits = read.within

    pub read_count : n₁ ≡ length (take n₁ w')
    read_count = count _ _ _ _ read

    pub read_line : (t t' : List ℕ) (at k : ℕ) → Printed (ok_line (take n₁ w') (units₁ ∷ [])) t t' at k → Printed (line_of (read_text_outcome f (length s) (length w))) t t' at k
    read_line t t' at k z = rw (hex_stands _ _ _ _ read) at z

  pub read_no : (e : Refusal) (n : ℕ) (t t' : List ℕ) (at k : ℕ) → Printed (no_number n) t t' at k → n ≡ number_of e → a ≡ Err e → Printed (line_of (read_text_outcome f (length s) (length w))) t t' at k
  unfolding write_says line_of
  read_no e n t t' at k z i j = refusal_told write_says _ s s' w w' a h e n t t' at k (ap write_says j) i z _

-- ---- `write_text`

module _ (f s w s' w' : List ℕ) (a : Result Written Refusal) (h : Settles write_says (write_text_outcome f (length s) (length w)) s s' w w' a) where
  module _ (v : Written) (e : a ≡ Ok v) where
    abbrev n₂ : ℕ
    n₂ = v.length

    abbrev units₂ : ℕ
    units₂ = v.units

    written : Stands (write_text_outcome f (length s) (length w)) w' n₂ (units₂ ∷ [])
    unfolding write_says
    written = stands write_says (write_text_outcome f (length s) (length w)) s s' w w' a h (length w) _ _ (written_counted f (length s) (length w)) (ap write_says e)

    pub written_fits : n₂ ≤ length w'
    written_fits = written.within

    pub written_count : n₂ ≡ length (take n₂ w')
    written_count = count _ _ _ _ written

    pub written_line : (t u v : List ℕ) (at i k : ℕ) → Printed (10 ∷ []) u v i k → Printed (ok_text (take n₂ w')) t u at i → Printed (bare_line (write_text_outcome f (length s) (length w))) t v at k
    written_line t u v at i k y z = rw (bare_stands _ _ _ _ written) at (bare_printed (take n₂ w') t u v at i k y z)

  pub written_no : (e : Refusal) (n : ℕ) (t t' : List ℕ) (at k : ℕ) → Printed (no_number n) t t' at k → n ≡ number_of e → a ≡ Err e → Printed (bare_line (write_text_outcome f (length s) (length w))) t t' at k
  unfolding write_says bare_line
  written_no e n t t' at k z i j = refusal_told write_says _ s s' w w' a h e n t t' at k (ap write_says j) i z _

-- ---- `optimise_text`

module _ (f s w s' w' : List ℕ) (a : Result Report Refusal) (h : Settles says (optimise_text_outcome f (length s) (length w)) s s' w w' a) where
  module _ (p : Report) (e : a ≡ Ok p) where
    optimised : Stands (optimise_text_outcome f (length s) (length w)) w' p.length (p.passes ∷ p.units ∷ bool_byte p.mark ∷ [])
    unfolding says
    optimised = rw (mark_byte p.mark) (stands says (optimise_text_outcome f (length s) (length w)) s s' w w' a h (length w) _ _ (optimised_counted f (length s) (length w)) (ap says e))

    pub optimised_fits : p.length ≤ length w'
    optimised_fits = optimised.within

    pub optimised_count : p.length ≡ length (take p.length w')
    optimised_count = count _ _ _ _ optimised

    pub optimised_line : (t t' : List ℕ) (at k : ℕ) → Printed (text_and (take p.length w') (p.passes ∷ p.units ∷ bool_byte p.mark ∷ [])) t t' at k → Printed (text_line (optimise_text_outcome f (length s) (length w))) t t' at k
    optimised_line t t' at k z = rw (text_stands _ _ _ _ optimised) at z

  pub optimised_no : (e : Refusal) (n : ℕ) (t t' : List ℕ) (at k : ℕ) → Printed (no_number n) t t' at k → n ≡ number_of e → a ≡ Err e → Printed (text_line (optimise_text_outcome f (length s) (length w))) t t' at k
  unfolding says text_line
  optimised_no e n t t' at k z i j = refusal_told says _ s s' w w' a h e n t t' at k (ap says j) i z _

-- ---- `evaluate_text`

module _ (f : List ℕ) (first : ℕ) (s w s' w' : List ℕ) (a : Result Evaluated Refusal) (h : Settles evaluation.says (evaluate_text_outcome f first (length s) (length w)) s s' w w' a) where
  module _ (v : Evaluated) (e : a ≡ Ok v) where
    abbrev n : ℕ
    n = v.length

    abbrev steps : ℕ
    steps = v.steps

    abbrev units : ℕ
    units = v.units

    evaluated : Stands (evaluate_text_outcome f first (length s) (length w)) w' n (steps ∷ units ∷ [])
    unfolding evaluation.says
    evaluated = stands evaluation.says (evaluate_text_outcome f first (length s) (length w)) s s' w w' a h (length w) _ _ (evaluated_counted f first (length s) (length w)) (ap evaluation.says e)

    pub evaluated_fits : n ≤ length w'
    evaluated_fits = evaluated.within

    pub evaluated_count : n ≡ length (take n w')
    evaluated_count = count _ _ _ _ evaluated

    pub evaluated_line : (t t' : List ℕ) (at k : ℕ) → Printed (text_and (take n w') (steps ∷ units ∷ [])) t t' at k → Printed (text_line (evaluate_text_outcome f first (length s) (length w))) t t' at k
    evaluated_line t t' at k z = rw (text_stands _ _ _ _ evaluated) at z

  pub evaluated_no : (e : Refusal) (n : ℕ) (t t' : List ℕ) (at k : ℕ) → Printed (no_number n) t t' at k → n ≡ number_of e → a ≡ Err e → Printed (text_line (evaluate_text_outcome f first (length s) (length w))) t t' at k
  unfolding evaluation.says text_line
  evaluated_no e n t t' at k z i j = refusal_told evaluation.says _ s s' w w' a h e n t t' at k (ap evaluation.says j) i z _

-- ---- `text_fault`

module _ (f s s' : List ℕ) (a : Result (Option ℕ) Refusal) (h : Settles fault_says (fault_outcome f (length s)) s s' [] [] a) where
  -- what is told of a fault is its line
  told_line : (ns t t' : List ℕ) (at k : ℕ) → fault_says a ≡ values plain ns → Printed (fault_words ns) t t' at k → Printed (fault_line (fault_outcome f (length s))) t t' at k
  unfolding fault_line line_with
  told_line ns t t' at k e z =
      let b : Answers (fault_outcome f (length s)) plain ns [] [] = told_answer (fault_outcome f (length s)) plain ns [] [] (sym e ∙ h.delivers.answer) h.delivers.out in
      subst (λ (o : Outcome). Printed (fault_line o) t t' at k) (sym b.is) z

  pub fault_at : (p : ℕ) (t u v : List ℕ) (at k m : ℕ) → Printed (numbers_line (p ∷ [])) u v k m → Printed (97 ∷ 116 ∷ []) t u at k → (x : Option ℕ) → a ≡ Ok x → x ≡ Some p → Printed (fault_line (fault_outcome f (length s))) t v at m
  unfolding fault_says fault_words
  fault_at p t u v at k m z y x i e = told_line (1 ∷ p ∷ []) t v at m (ap fault_says (i ∙ ap Ok e)) (joined (97 ∷ 116 ∷ []) (numbers_line (p ∷ [])) t u v at k m z y)

  pub fault_none : (t t' : List ℕ) (at k : ℕ) → Printed (110 ∷ 111 ∷ 32 ∷ 102 ∷ 97 ∷ 117 ∷ 108 ∷ 116 ∷ 10 ∷ []) t t' at k → (x : Option ℕ) → a ≡ Ok x → x ≡ None → Printed (fault_line (fault_outcome f (length s))) t t' at k
  unfolding fault_says fault_words
  fault_none t t' at k z x i e = told_line (0 ∷ 0 ∷ []) t t' at k (ap fault_says (i ∙ ap Ok e)) z

  pub fault_no : (e : Refusal) (n : ℕ) (t t' : List ℕ) (at k : ℕ) → Printed (no_number n) t t' at k → n ≡ number_of e → a ≡ Err e → Printed (fault_line (fault_outcome f (length s))) t t' at k
  unfolding fault_says fault_line
  fault_no e n t t' at k z i j = refusal_told fault_says _ s s' [] [] a h e n t t' at k (ap fault_says j) i z _
