-- The list: what is made of a form and of a line. Assumes nothing.
use mathlib.Core.Path.{◌≡◌, refl, ◌∙◌, ap, subst}
use mathlib.Core.List.{List}
use mathlib.Core.Bool.{true, false}
use mathlib.Core.Logic.{◌⊎◌, inl, inr}
use Prim.Native.Nat.{ℕ}
use lib.ListN.{take}
use Rattle.refusals.specs.declared.Refusal.{Refusal}
use Rattle.lines.specs.declared.read.Got.{Got}
use Rattle.lines.specs.declared.read.Got.TheVariants.{Form, Bad, End}
use Rattle.lines.specs.declared.read.Lines.{Lines}
use Rattle.lines.specs.Text.{Waits, Cleared, Printed, no_line}
use Rattle.lines.specs.Line.{Came}
use Rattle.lines.proofs.Waiting.{waits_on}
use Rattle.lines.proofs.Printing.{nothing}
use Rattle.totals.specs.declared.Savings.{Savings}
use Rattle.totals.specs.declared.Column.{Column}
use Rattle.totals.specs.declared.Column.TheVariants.{Answered, Refused, Full}
use Rattle.totals.specs.declared.Added.{Added}
use Rattle.totals.specs.Adding.{Adds}
use Rattle.totals.proofs.Report.{taken, left, full_shut, column_open}
use Rattle.savings.specs.declared.Listed.{Listed}
use Rattle.savings.specs.Report.{report_text, last_text, form_text, form_after, Worked, line_text, line_after, line_over, Turned}

-- ---- work_in

not_full : (c : Column) → (c ≡ Answered) ⊎ ((x : Refusal) × (c ≡ Refused x)) → c ≡ Full → ⊥
not_full c (inl e) z = cc
not_full c (inr (x, e)) z = cc

module _ (s : Savings) (form room room₁ : List ℕ) (a : Added) (h : Adds s form room room₁ a) where
  module _ (l : Lines) where
    pub worked_full : a.column ≡ Full → (text text' : List ℕ) (at k : ℕ) → Printed (last_text a.savings) text text' at k
        → Worked s form room text text' at (record { lines = record { at = l.at; len = l.len; put = k; first = l.first; n = l.n; got = l.got }; savings = a.savings; over = true })
    unfolding form_after form_text
    worked_full e text text' at k p =
        let y = full_shut s form room room₁ a h e in
        record {
          savings = rw (y, form_after) (left s form room room₁ a h y).savings;
          over = rw y refl;
          printed = subst (λ (x : List ℕ). Printed x text text' at k) (ap last_text (left s form room room₁ a h y).savings ∙ rw (y, form_text) refl) p;
        }

    pub worked_open : (a.column ≡ Answered) ⊎ ((x : Refusal) × (a.column ≡ Refused x)) → (text : List ℕ) (at : ℕ)
        → Worked s form room text text at (record { lines = record { at = l.at; len = l.len; put = at; first = l.first; n = l.n; got = l.got }; savings = a.savings; over = false })
    unfolding form_after form_text
    worked_open e text at =
        let y = column_open s form room room₁ a h (not_full a.column e) in
        record {
          savings = rw (y, form_after) (taken s form room room₁ a h y).savings;
          over = rw y refl;
          printed = rw (y, form_text) (nothing text at);
        }

-- ---- turn

module _ (s : Savings) (l q : Lines) (forms room text text' : List ℕ) (at : ℕ) (came : Came forms l q) (clear : Cleared text q.put at) where
  waiting : Waits l.put at
  waiting = waits_on l.put q.put at came.waits clear.waits

  pub turned_form : (r : Listed) (n : ℕ) (g : Got) → Worked s (take n forms) room text text' at r → r.lines.got ≡ g → r.lines.n ≡ n → g ≡ Form → Turned s l.put forms room text text' r
  unfolding line_after line_over line_text
  turned_form r n g w eg en ef =
      let e : r.lines.got ≡ Form = eg ∙ ef in
      record {
        savings = rw (e, en) w.savings;
        over = rw e w.over;
        from = at;
        waits = waiting;
        printed = rw e w.printed;
      }

  pub turned_bad : (k : ℕ) → Printed no_line text text' at k → q.got ≡ Bad
      → Turned s l.put forms room text text' (record { lines = record { at = q.at; len = q.len; put = k; first = q.first; n = q.n; got = q.got }; savings = s; over = false })
  unfolding line_after line_over line_text
  turned_bad k p g = record { savings = rw g refl; over = rw g refl; from = at; waits = waiting; printed = rw g p }

  pub turned_end : (k : ℕ) → Printed (report_text s) text text' at k → q.got ≡ End
      → Turned s l.put forms room text text' (record { lines = record { at = q.at; len = q.len; put = k; first = q.first; n = q.n; got = q.got }; savings = s; over = true })
  unfolding line_after line_over line_text
  turned_end k p g = record { savings = rw g refl; over = rw g refl; from = at; waits = waiting; printed = rw g p }
