-- Printing a report: each need. Assumes nothing.
use mathlib.Core.Path.{◌≡◌, refl, sym, ◌∙◌, ap, subst}
use mathlib.Core.List.{List, [], ◌∷◌, ◌++◌, append-nil, append_assoc}
use Prim.Native.Nat.{ℕ, suc, ◌+◌, ◌<◌, ◌≤◌}
use native.Mathlib.Omega.{arith}
use lib.ListN.{length, get_or, drop}
use lib.Seq.{drop-cons, drop-length}
use Rattle.refusals.specs.declared.Refusal.TheVariants.{ReportFull}
use Rattle.refusals.specs.Numbers.{number_of}
use Rattle.lines.specs.Text.{Printed, numbers_line, no_number}
use Rattle.lines.proofs.Printing.{nothing, joined}
use Rattle.totals.specs.declared.Savings.{Savings}
use Rattle.totals.specs.Savings.{sum_from, fewer}
use Rattle.savings.specs.Report.{forms_word, answered_word, refused_word, marked_word, bytes_word, passes_word, rules_word, row, refused_text, rule_numbers, totals_text, report_text, last_text}

-- ---- print_refused: what was printed, and what is left to print

pub record Refusing (ns s t : List ℕ) (at k i : ℕ) : Type 0 where
  pub bound : i ≤ length ns
  pub past : List ℕ
  pub printed : Printed past s t at k
  pub rest : refused_text 1 ns ≡ past ++ refused_text (i + 1) (drop i ns)

pub refusing_starts : (ns s : List ℕ) (at : ℕ) → Refusing ns s s at at 0
refusing_starts ns s at = record { bound = omega arith; past = []; printed = nothing s at; rest = refl }

module _ (ns s t : List ℕ) (at k i : ℕ) (a : Refusing ns s t at k i) where
  pub refusing_next : i < length ns → (u : List ℕ) (r : ℕ) → Printed (refused_word ++ numbers_line ((i + 1) ∷ get_or ns i 0 ∷ [])) t u k r → Refusing ns s u at r (i + 1)
  unfolding refused_text
  refusing_next l u r p =
      let z : i + 1 ≡ suc i = omega arith in
      let here : List ℕ = row refused_word ((i + 1) ∷ get_or ns i 0 ∷ []) in
      record {
        bound = omega arith;
        past = a.past ++ here;
        printed = joined a.past here s t u at k r p a.printed;
        rest =
            a.rest
            ∙ ap (λ (x : List ℕ). a.past ++ refused_text (i + 1) x) (drop-cons ns i 0 l)
            ∙ sym (append_assoc a.past here (refused_text (i + 1 + 1) (drop (suc i) ns)))
            ∙ ap (λ (n : ℕ). (a.past ++ here) ++ refused_text (i + 1 + 1) (drop n ns)) (sym z);
      }

  pub refusing_ends : length ns ≤ i → Printed (refused_text 1 ns) s t at k
  unfolding refused_text
  refusing_ends l =
      let z : i ≡ length ns = omega (arith, a.bound) in
      let e : refused_text 1 ns ≡ a.past =
      a.rest ∙ ap (λ (x : List ℕ). a.past ++ refused_text (i + 1) x) (ap (λ (n : ℕ). drop n ns) z ∙ drop-length ns) ∙ append-nil a.past in
      subst (λ (x : List ℕ). Printed x s t at k) (sym e) a.printed

-- ---- one row after another

-- eight numbers, one by one
eight_numbers : (ns : List ℕ) → length ns ≡ 8 → ns ≡ rule_numbers ns
eight_numbers (a ∷ b ∷ c ∷ d ∷ e ∷ f ∷ g ∷ h ∷ []) l = refl
eight_numbers [] l = absurd (omega arith)
eight_numbers (a ∷ []) l = absurd (omega arith)
eight_numbers (a ∷ b ∷ []) l = absurd (omega arith)
eight_numbers (a ∷ b ∷ c ∷ []) l = absurd (omega arith)
eight_numbers (a ∷ b ∷ c ∷ d ∷ []) l = absurd (omega arith)
eight_numbers (a ∷ b ∷ c ∷ d ∷ e ∷ []) l = absurd (omega arith)
eight_numbers (a ∷ b ∷ c ∷ d ∷ e ∷ f ∷ []) l = absurd (omega arith)
eight_numbers (a ∷ b ∷ c ∷ d ∷ e ∷ f ∷ g ∷ []) l = absurd (omega arith)
eight_numbers (a ∷ b ∷ c ∷ d ∷ e ∷ f ∷ g ∷ h ∷ i ∷ l) m = absurd (omega arith)

pub eight_same : (ns ms : List ℕ) → length ns ≡ 8 → ((i : ℕ) → i < 8 → get_or ns i 0 ≡ get_or ms i 0) → ns ≡ rule_numbers ms
eight_same ns ms l h =
    eight_numbers ns l
    ∙ rw (h 0 (omega arith), h 1 (omega arith), h 2 (omega arith), h 3 (omega arith), h 4 (omega arith), h 5 (omega arith), h 6 (omega arith), h 7 (omega arith)) refl

pub row_of_rules : (ns ms : List ℕ) → ns ≡ ms → (s t : List ℕ) (at r : ℕ) → Printed (rules_word ++ numbers_line ns) s t at r → Printed (rules_word ++ numbers_line ms) s t at r
row_of_rules ns ms e s t at r p = rw (← e) p

pub totals_printed : (s : Savings) (t t₁ t₂ t₃ t₄ : List ℕ) (at a b c r : ℕ)
    → Printed (rules_word ++ numbers_line (rule_numbers s.rules)) t₃ t₄ c r
    → Printed (passes_word ++ numbers_line (s.passes ∷ [])) t₂ t₃ b c
    → Printed (bytes_word ++ numbers_line (s.before ∷ s.after ∷ [])) t₁ t₂ a b
    → Printed (marked_word ++ numbers_line (s.marked ∷ [])) t t₁ at a
    → Printed (totals_text s) t t₄ at r
unfolding totals_text
totals_printed s t t₁ t₂ t₃ t₄ at a b c r p₄ p₃ p₂ p₁ =
    joined ((row marked_word (s.marked ∷ []) ++ row bytes_word (s.before ∷ s.after ∷ [])) ++ row passes_word (s.passes ∷ [])) (row rules_word (rule_numbers s.rules)) t t₃ t₄ at c r p₄
    (joined (row marked_word (s.marked ∷ []) ++ row bytes_word (s.before ∷ s.after ∷ [])) (row passes_word (s.passes ∷ [])) t t₂ t₃ at b c p₃
    (joined (row marked_word (s.marked ∷ [])) (row bytes_word (s.before ∷ s.after ∷ [])) t t₁ t₂ at a b p₂ p₁))

pub report_printed : (s : Savings) (n : ℕ) (t t₁ t₂ t₃ t₄ : List ℕ) (at a b c r : ℕ)
    → Printed (totals_text s) t₃ t₄ c r
    → Printed (refused_text 1 s.refused) t₂ t₃ b c
    → Printed (answered_word ++ numbers_line (s.answered ∷ [])) t₁ t₂ a b
    → Printed (forms_word ++ numbers_line (n ∷ [])) t t₁ at a
    → n ≡ fewer (sum_from s.answered s.refused)
    → Printed (report_text s) t t₄ at r
unfolding report_text
report_printed s n t t₁ t₂ t₃ t₄ at a b c r p₄ p₃ p₂ p₁ e =
    let q : Printed (row forms_word (fewer (sum_from s.answered s.refused) ∷ [])) t t₁ at a = subst (λ (x : ℕ). Printed (row forms_word (x ∷ [])) t t₁ at a) e p₁ in
    joined ((row forms_word (fewer (sum_from s.answered s.refused) ∷ []) ++ row answered_word (s.answered ∷ [])) ++ refused_text 1 s.refused) (totals_text s) t t₃ t₄ at c r p₄
    (joined (row forms_word (fewer (sum_from s.answered s.refused) ∷ []) ++ row answered_word (s.answered ∷ [])) (refused_text 1 s.refused) t t₂ t₃ at b c p₃
    (joined (row forms_word (fewer (sum_from s.answered s.refused) ∷ [])) (row answered_word (s.answered ∷ [])) t t₁ t₂ at a b p₂ q))

pub last_printed : (s : Savings) (n : ℕ) (t t₁ t₂ : List ℕ) (at a r : ℕ) → Printed (no_number n) t₁ t₂ a r → n ≡ number_of ReportFull → Printed (report_text s) t t₁ at a → Printed (last_text s) t t₂ at r
unfolding last_text
last_printed s n t t₁ t₂ at a r p e q = joined (report_text s) (no_number (number_of ReportFull)) t t₁ t₂ at a r (subst (λ (x : ℕ). Printed (no_number x) t₁ t₂ a r) e p) q
