-- The line that is printed is the outcome's. Assumes nothing.
use Rattle.std.specs.Prelude.{Result, Ok, Err}
use mathlib.Core.Path.{◌≡◌, refl, sym, ◌∙◌, ap, subst}
use mathlib.Core.Bool.{Bool, true, false}
use mathlib.Core.List.{List, [], ◌∷◌}
use Prim.Native.Nat.{ℕ, ◌≤◌}
use native.Mathlib.Omega.{arith}
use lib.ListN.{length, take, drop}
use lib.Seq.{length-take-le}
use mir.Val.{bool_byte}
use Rattle.refusals.specs.declared.Refusal.{Refusal}
use Rattle.refusals.specs.Numbers.{number_of}
use Rattle.meaning.specs.Outcome.{Outcome, plain, answered, Told, values, number, Settles}
use Rattle.meaning.specs.Run.{run, mark_number}
use Rattle.meaning.proofs.Lent.{Answers, told_answer, told_refusal}
use Rattle.optimiser.specs.declared.Report.{Report}
use Rattle.optimiser.specs.Optimised.{says, Optimised}
use Rattle.evaluation.specs.declared.Evaluated.{Evaluated}
use Rattle.evaluation.specs.Bytes as evaluation
use Rattle.form.specs.declared.Written.{Written}
use Rattle.form.specs.Bytes as form
use Rattle.lines.specs.Text.{Printed, ok_tree, numbers_line, no_number}
use Rattle.lines.proofs.Printing.{joined}
use Rattle.outcome.specs.Line.{line_with, ok_line, line_of}
use Rattle.outcome.proofs.Outcomes.{Counted, run_counted, evaluation_counted, write_counted}

pub answer_printed : (bs ns s t u : List ℕ) (at a k : ℕ) → Printed (numbers_line ns) t u a k → Printed (ok_tree bs) s t at a → Printed (ok_line bs ns) s u at k
unfolding ok_line
answer_printed bs ns s t u at a k h g = joined (ok_tree bs) (numbers_line ns) s t u at a k h g

-- ---- for every function that delivers a tree

-- an answer that tells n and then ns: n bytes stand at the front of the output, and they are the outcome's
pub record Stands (o : Outcome) (w : List ℕ) (n : ℕ) (ns : List ℕ) : Type 0 where
  pub within : n ≤ length w
  pub is : o ≡ answered (take n w) plain (n ∷ ns)

pub count : (o : Outcome) (w : List ℕ) (n : ℕ) (ns : List ℕ) → Stands o w n ns → n ≡ length (take n w)
count o w n ns h = sym (length-take-le n w h.within)

-- so its line is that of these bytes
pub line_stands : (ok : List ℕ → List ℕ → List ℕ) (o : Outcome) (w : List ℕ) (n : ℕ) (ns : List ℕ) → Stands o w n ns → ok (take n w) (n ∷ ns) ≡ line_with ok o
unfolding line_with
line_stands ok o w n ns h = sym (ap (line_with ok) h.is)

tree_line : (o : Outcome) (w : List ℕ) (n : ℕ) (ns : List ℕ) → Stands o w n ns → ok_line (take n w) ns ≡ line_of o
unfolding line_of
tree_line o w n ns h = line_stands (λ bytes ms. ok_line bytes (drop 1 ms)) o w n ns h

module _ {A : Type 0} (tells : A → Told) (o : Outcome) (s s' w w' : List ℕ) (a : A) (h : Settles tells o s s' w w' a) where
  pub stands : (m n : ℕ) (ns : List ℕ) → Counted m o → tells a ≡ values plain (n ∷ ns) → Stands o w' n ns
  unfolding Counted
  stands m n ns c e =
      let b : Answers o plain (n ∷ ns) w w' = told_answer o plain (n ∷ ns) w w' (sym e ∙ h.delivers.answer) h.delivers.out in
      let d : Counted m (answered b.bytes plain (n ∷ ns)) = rw b.is at c in
      let i : n ≡ length b.bytes = cc d.1.0 in
      let l : length b.bytes ≤ length w' = b.within in
      record { within = omega arith; is = b.is ∙ ap (λ (bs : List ℕ). answered bs plain (n ∷ ns)) (sym (ap (λ (k : ℕ). take k w') i ∙ b.front)) }

  pub refusal_told : (e : Refusal) (n : ℕ) (t t' : List ℕ) (at r : ℕ) → tells a ≡ number (number_of e) → n ≡ number_of e → Printed (no_number n) t t' at r → (ok : List ℕ → List ℕ → List ℕ) → Printed (line_with ok o) t t' at r
  unfolding line_with
  refusal_told e n t t' at r i k p ok =
      subst (λ (x : Outcome). Printed (line_with ok x) t t' at r) (sym (told_refusal o e (sym i ∙ h.delivers.answer))) (subst (λ (m : ℕ). Printed (no_number m) t t' at r) k p)

-- ---- `optimise`

-- a bool as a number is the mark's
pub mark_byte : (b : Bool) → bool_byte b ≡ mark_number b
unfolding mark_number
mark_byte true = refl
mark_byte false = refl

module _ (f s w s' w' : List ℕ) (a : Result Report Refusal) (h : Optimised f s w a s' w') where
  module _ (p : Report) (e : a ≡ Ok p) where
    optimised : Stands (run f (length s) (length w)) w' p.length (p.passes ∷ p.units ∷ bool_byte p.mark ∷ [])
    unfolding says
    optimised = rw (mark_byte p.mark) (stands says (run f (length s) (length w)) s s' w w' a h (length w) _ _ (run_counted f (length s) (length w)) (ap says e))

    pub optimised_fits : p.length ≤ length w'
    optimised_fits = optimised.within

    pub optimised_count : p.length ≡ length (take p.length w')
    optimised_count = count _ _ _ _ optimised

    pub optimised_line : (t t' : List ℕ) (at k : ℕ) → Printed (ok_line (take p.length w') (p.passes ∷ p.units ∷ bool_byte p.mark ∷ [])) t t' at k → Printed (line_of (run f (length s) (length w))) t t' at k
    optimised_line t t' at k z = rw (tree_line _ _ _ _ optimised) at z

  pub optimised_no : (e : Refusal) (n : ℕ) (t t' : List ℕ) (at k : ℕ) → Printed (no_number n) t t' at k → n ≡ number_of e → a ≡ Err e → Printed (line_of (run f (length s) (length w))) t t' at k
  unfolding says line_of
  optimised_no e n t t' at k z i j = refusal_told says _ s s' w w' a h e n t t' at k (ap says j) i z _

-- ---- `evaluate`

module _ (f : List ℕ) (first : ℕ) (s w s' w' : List ℕ) (a : Result Evaluated Refusal) (h : Settles evaluation.says (evaluation.outcome f first (length s) (length w)) s s' w w' a) where
  module _ (v : Evaluated) (e : a ≡ Ok v) where
    abbrev n : ℕ
    n = v.length

    abbrev steps : ℕ
    steps = v.steps

    abbrev units : ℕ
    units = v.units

    evaluated : Stands (evaluation.outcome f first (length s) (length w)) w' n (steps ∷ units ∷ [])
    unfolding evaluation.says
    evaluated = stands evaluation.says (evaluation.outcome f first (length s) (length w)) s s' w w' a h (length w) _ _ (evaluation_counted f first (length s) (length w)) (ap evaluation.says e)

    pub evaluated_fits : n ≤ length w'
    evaluated_fits = evaluated.within

    pub evaluated_count : n ≡ length (take n w')
    evaluated_count = count _ _ _ _ evaluated

    pub evaluated_line : (t t' : List ℕ) (at k : ℕ) → Printed (ok_line (take n w') (steps ∷ units ∷ [])) t t' at k → Printed (line_of (evaluation.outcome f first (length s) (length w))) t t' at k
    evaluated_line t t' at k z = rw (tree_line _ _ _ _ evaluated) at z

  pub evaluated_no : (e : Refusal) (n : ℕ) (t t' : List ℕ) (at k : ℕ) → Printed (no_number n) t t' at k → n ≡ number_of e → a ≡ Err e → Printed (line_of (evaluation.outcome f first (length s) (length w))) t t' at k
  unfolding evaluation.says line_of
  evaluated_no e n t t' at k z i j = refusal_told evaluation.says _ s s' w w' a h e n t t' at k (ap evaluation.says j) i z _

-- ---- `write`

module _ (f s w s' w' : List ℕ) (a : Result Written Refusal) (h : Settles form.write_says (form.write_outcome f (length s) (length w)) s s' w w' a) where
  module _ (v : Written) (e : a ≡ Ok v) where
    abbrev n₁ : ℕ
    n₁ = v.length

    abbrev units₁ : ℕ
    units₁ = v.units

    written : Stands (form.write_outcome f (length s) (length w)) w' n₁ (units₁ ∷ [])
    unfolding form.write_says
    written = stands form.write_says (form.write_outcome f (length s) (length w)) s s' w w' a h (length w) _ _ (write_counted f (length s) (length w)) (ap form.write_says e)

    pub written_fits : n₁ ≤ length w'
    written_fits = written.within

    pub written_count : n₁ ≡ length (take n₁ w')
    written_count = count _ _ _ _ written

    pub written_line : (t t' : List ℕ) (at k : ℕ) → Printed (ok_line (take n₁ w') (units₁ ∷ [])) t t' at k → Printed (line_of (form.write_outcome f (length s) (length w))) t t' at k
    written_line t t' at k z = rw (tree_line _ _ _ _ written) at z

  pub written_no : (e : Refusal) (n : ℕ) (t t' : List ℕ) (at k : ℕ) → Printed (no_number n) t t' at k → n ≡ number_of e → a ≡ Err e → Printed (line_of (form.write_outcome f (length s) (length w))) t t' at k
  unfolding form.write_says line_of
  written_no e n t t' at k z i j = refusal_told form.write_says _ s s' w w' a h e n t t' at k (ap form.write_says j) i z _
