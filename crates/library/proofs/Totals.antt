-- The running report as numbers, and what each return of `umlazgrin_add_form` says. Assumes nothing.
use mathlib.Core.Path.{◌≡◌, refl, sym, ◌∙◌, ap}
use mathlib.Core.List.{List, [], ◌∷◌}
use mathlib.Core.Bool.{true, false}
use Prim.Native.Nat.{ℕ}
use native.Mathlib.Omega.{arith}
use lib.ListN.{get_or}
use Rattle.refusals.specs.declared.Refusal.{Refusal}
use Rattle.refusals.specs.declared.Refusal.TheVariants.{ReportFull}
use Rattle.refusals.specs.Numbers.{number_of}
use Rattle.totals.specs.declared.Savings.{Savings}
use Rattle.totals.specs.declared.Column.{Column}
use Rattle.totals.specs.declared.Column.TheVariants.{Answered, Refused, Full}
use Rattle.totals.specs.declared.Added.{Added}
use Rattle.totals.specs.Savings.{is_open}
use Rattle.totals.specs.Adding.{number_in, Adds}
use Rattle.totals.proofs.Report.{taken, left, full_shut, column_open}
use Rattle.library.specs.Totals.{savings_in, numbers_of, report_after, column_in, outcome_in, Totals}

pub savings_are : (q : List ℕ)
    → record { answered = get_or q 0 0; refused = get_or q 1 0 ∷ get_or q 2 0 ∷ get_or q 3 0 ∷ get_or q 4 0 ∷ get_or q 5 0 ∷ get_or q 6 0 ∷ get_or q 7 0 ∷ get_or q 8 0 ∷ get_or q 9 0 ∷ get_or q 10 0 ∷ get_or q 11 0 ∷ get_or q 12 0 ∷ get_or q 13 0 ∷ get_or q 14 0 ∷ []; marked = get_or q 15 0; before = get_or q 16 0; after = get_or q 17 0; passes = get_or q 18 0; rules = get_or q 19 0 ∷ get_or q 20 0 ∷ get_or q 21 0 ∷ get_or q 22 0 ∷ get_or q 23 0 ∷ get_or q 24 0 ∷ get_or q 25 0 ∷ get_or q 26 0 ∷ [] } ≡ savings_in q
unfolding savings_in
savings_are q = refl

pub numbers_are : (s : Savings)
    → s.answered ∷ get_or s.refused 0 0 ∷ get_or s.refused 1 0 ∷ get_or s.refused 2 0 ∷ get_or s.refused 3 0 ∷ get_or s.refused 4 0 ∷ get_or s.refused 5 0 ∷ get_or s.refused 6 0 ∷ get_or s.refused 7 0 ∷ get_or s.refused 8 0 ∷ get_or s.refused 9 0 ∷ get_or s.refused 10 0 ∷ get_or s.refused 11 0 ∷ get_or s.refused 12 0 ∷ get_or s.refused 13 0 ∷ s.marked ∷ s.before ∷ s.after ∷ s.passes ∷ get_or s.rules 0 0 ∷ get_or s.rules 1 0 ∷ get_or s.rules 2 0 ∷ get_or s.rules 3 0 ∷ get_or s.rules 4 0 ∷ get_or s.rules 5 0 ∷ get_or s.rules 6 0 ∷ get_or s.rules 7 0 ∷ [] ≡ numbers_of s
unfolding numbers_of
numbers_are s = refl

module _ (form s s₁ q : List ℕ) (v : Savings) (ev : v ≡ savings_in q) (a : Added) (h : Adds v form s s₁ a) (c : Column) (ec : c ≡ a.column) where
  to : Adds (savings_in q) form s s₁ a
  to = rw (← ev) h

  -- taken: the report has it
  taken_so : is_open (savings_in q) ≡ true → (n : ℕ) → n ≡ number_in c → (q₁ : List ℕ) → q₁ ≡ numbers_of a.savings → Totals form s s₁ q q₁ n
  unfolding column_in report_after outcome_in
  taken_so y n en q₁ eq =
      let t = taken (savings_in q) form s s₁ a to y in
      record {
        returns = en ∙ ap number_in (ec ∙ t.column) ∙ rw (y, column_in) refl;
        reports = eq ∙ ap numbers_of t.savings ∙ rw (y, report_after) refl;
        room = t.room ∙ rw (y, outcome_in) refl;
      }

  open_with : (c ≡ Full → ⊥) → is_open (savings_in q) ≡ true
  open_with e = column_open (savings_in q) form s s₁ a to (λ z. e (ec ∙ z))

  pub answered_told : c ≡ Answered → (q₁ : List ℕ) → q₁ ≡ numbers_of a.savings → Totals form s s₁ q q₁ 0
  unfolding number_in
  answered_told e q₁ eq = taken_so (open_with (λ z. let x : Answered ≡ Full = sym e ∙ z in let y : ◌≡◌ {A = ℕ} 0 1 = cc in absurd (omega arith))) 0 (rw e refl) q₁ eq

  pub refused_told : (r : Refusal) → c ≡ Refused r → (n : ℕ) → n ≡ number_of r → (q₁ : List ℕ) → q₁ ≡ numbers_of a.savings → Totals form s s₁ q q₁ n
  unfolding number_in
  refused_told r e n en q₁ eq = taken_so (open_with (λ z. let x : Refused r ≡ Full = sym e ∙ z in let y : ◌≡◌ {A = ℕ} 0 1 = cc in absurd (omega arith))) n (en ∙ rw e refl) q₁ eq

  -- not taken: as it came in
  pub full_told : c ≡ Full → (n : ℕ) → n ≡ number_of ReportFull → Totals form s s₁ q q n
  unfolding column_in report_after outcome_in number_in
  full_told e n en =
      let y : is_open (savings_in q) ≡ false = full_shut (savings_in q) form s s₁ a to (sym ec ∙ e) in
      record {
        returns = en ∙ rw (y, column_in) refl;
        reports = rw (y, report_after) refl;
        room = (left (savings_in q) form s s₁ a to y).room ∙ rw (y, outcome_in) refl;
      }

-- one outcome only: the number, the room and the report
pub only_total : (form s q s₁ q₁ s₂ q₂ : List ℕ) (m n : ℕ) → Totals form s s₁ q q₁ m → Totals form s s₂ q q₂ n → (m ≡ n) × (s₁ ≡ s₂) × (q₁ ≡ q₂)
only_total form s q s₁ q₁ s₂ q₂ m n a b = (a.returns ∙ sym b.returns, a.room ∙ sym b.room, a.reports ∙ sym b.reports)
