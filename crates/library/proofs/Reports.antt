-- From what a public function promises of its answer to what the library's function of the same work returns and reports. Assumes nothing.
use Rattle.std.specs.Prelude.{Result, Ok, Err, Option, Some, None}
use Rattle.matcher.specs.declared.Verdict.{Verdict}
use Rattle.matcher.specs.declared.Verdict.TheVariants.{Matched, NoMatch, TooManyNames}
use mathlib.Core.Path.{◌≡◌, refl, sym, ◌∙◌, ap}
use mathlib.Core.List.{List, [], ◌∷◌}
use Prim.Native.Nat.{ℕ}
use mir.Val.{bool_byte}
use Rattle.refusals.specs.declared.Refusal.{Refusal}
use Rattle.refusals.specs.Numbers.{number_of}
use Rattle.meaning.specs.Outcome.{Outcome, plain, no_match, too_many_names, Told, values, number, told, Settles}
use Rattle.form.specs.declared.Written.{Written}
use Rattle.form.specs.Bytes.{read_says, write_says}
use Rattle.evaluation.specs.declared.Evaluated.{Evaluated}
use Rattle.evaluation.specs.Bytes as evaluation
use Rattle.matcher.specs.declared.Parts.{Parts}
use Rattle.matcher.specs.declared.Matching.{Matching}
use Rattle.matcher.specs.Outcome as matcher
use Rattle.optimiser.specs.declared.Report.{Report}
use Rattle.optimiser.specs.Optimised as optimiser
use Rattle.texts.specs.Faults.{fault_says}
use Rattle.totals.proofs.Adding.{mark_byte}
use Rattle.library.specs.Reports.{number_told, report_told, place_told, Reports, Places}

-- whatever an answer tells, the number and the report follow from it
module _ {A : Type 0} (tells : A → Told) (o : Outcome) (s s₁ w w₁ q : List ℕ) (a b : A) (h : Settles tells o s s₁ w w₁ a) (i : a ≡ b) where
  reported : (q₁ : List ℕ) (n : ℕ) → n ≡ number_told (tells b) → q₁ ≡ report_told (tells b) q → Reports o s s₁ w w₁ q q₁ n
  reported q₁ n j k = let e : _ = sym (ap tells i) ∙ h.delivers.answer in record {
    returns = j ∙ ap number_told e;
    reports = k ∙ ap (λ (t : Told). report_told t q) e;
    room = h.room;
    out = h.delivers.out;
  }

-- ---- optimise, from a form or a text

module _ (o : Outcome) (s s₁ w w₁ q : List ℕ) (a : Result Report Refusal) (h : Settles optimiser.says o s s₁ w w₁ a) where
  pub optimise_refused : (e : Refusal) (n : ℕ) → a ≡ Err e → n ≡ number_of e → Reports o s s₁ w w₁ q q n
  unfolding optimiser.says number_told report_told
  optimise_refused e n i j = reported optimiser.says o s s₁ w w₁ q a (Err e) h i q n j refl

  pub optimise_done : (r : Report) → a ≡ Ok r → Reports o s s₁ w w₁ q (r.length ∷ r.passes ∷ r.units ∷ bool_byte r.mark ∷ []) 0
  unfolding optimiser.says number_told report_told
  optimise_done r i = reported optimiser.says o s s₁ w w₁ q a (Ok r) h i _ 0 refl (ap (λ (m : ℕ). r.length ∷ r.passes ∷ r.units ∷ m ∷ []) (mark_byte r.mark))

-- ---- evaluate, from forms or texts

module _ (o : Outcome) (s s₁ w w₁ q : List ℕ) (a : Result Evaluated Refusal) (h : Settles evaluation.says o s s₁ w w₁ a) where
  pub evaluate_refused : (e : Refusal) (n : ℕ) → a ≡ Err e → n ≡ number_of e → Reports o s s₁ w w₁ q q n
  unfolding evaluation.says number_told report_told
  evaluate_refused e n i j = reported evaluation.says o s s₁ w w₁ q a (Err e) h i q n j refl

  pub evaluate_done : (v : Evaluated) → a ≡ Ok v → Reports o s s₁ w w₁ q (v.length ∷ v.steps ∷ v.units ∷ []) 0
  unfolding evaluation.says number_told report_told
  evaluate_done v i = reported evaluation.says o s s₁ w w₁ q a (Ok v) h i _ 0 refl refl

-- ---- match

module _ (o : Outcome) (s s₁ w w₁ q p : List ℕ) (m : Matching) (h : matcher.Matches o s s₁ w w₁ m) where
  placed : (t : Told) (q₁ p₁ : List ℕ) (n : ℕ) → matcher.says m ≡ t → n ≡ number_told t → q₁ ≡ report_told t q → p₁ ≡ place_told t p → Places o s s₁ w w₁ q q₁ p p₁ n
  placed t q₁ p₁ n i j k l = let e : t ≡ told o = sym i ∙ h.settles.delivers.answer in record {
    reports = record {
      returns = j ∙ ap number_told e;
      reports = k ∙ ap (λ (x : Told). report_told x q) e;
      room = h.settles.room;
      out = h.settles.delivers.out;
    };
    place = l ∙ ap (λ (x : Told). place_told x p) e;
  }

  pub match_refused : (e : Refusal) (n : ℕ) → m.answer ≡ Err e → n ≡ number_of e → Places o s s₁ w w₁ q q p p n
  unfolding matcher.says matcher.says_at number_told report_told place_told
  match_refused e n i j = placed (number (number_of e)) q p n (ap (matcher.says_at m.place) i) j refl refl

  pub match_none : (v : Verdict) → m.answer ≡ Ok v → v ≡ NoMatch → Places o s s₁ w w₁ q q p m.place 100
  unfolding matcher.says matcher.says_at number_told report_told place_told
  match_none v i e = placed (values no_match m.place) q m.place 100 (ap (matcher.says_at m.place) (i ∙ ap Ok e)) refl refl refl

  pub match_many : (v : Verdict) → m.answer ≡ Ok v → v ≡ TooManyNames → Places o s s₁ w w₁ q q p p 101
  unfolding matcher.says matcher.says_at number_told report_told place_told
  match_many v i e = placed (values too_many_names []) q p 101 (ap (matcher.says_at m.place) (i ∙ ap Ok e)) refl refl refl

  pub match_done : (e : Parts) (v : Verdict) → m.answer ≡ Ok v → v ≡ Matched e → Places o s s₁ w w₁ q (e.count ∷ e.name_1 ∷ e.node_1 ∷ e.name_2 ∷ e.node_2 ∷ []) p p 0
  unfolding matcher.says matcher.says_at number_told report_told place_told
  match_done e v i j = placed (values plain (e.count ∷ e.name_1 ∷ e.node_1 ∷ e.name_2 ∷ e.node_2 ∷ [])) _ p 0 (ap (matcher.says_at m.place) (i ∙ ap Ok j)) refl refl refl

pub place_dropped : (o : Outcome) (s s₁ w w₁ q q₁ p p₁ : List ℕ) (n : ℕ) → Places o s s₁ w w₁ q q₁ p p₁ n → Reports o s s₁ w w₁ q q₁ n
place_dropped o s s₁ w w₁ q q₁ p p₁ n h = h.reports

-- ---- read

module _ (o : Outcome) (s s₁ w w₁ q : List ℕ) (a : Result ℕ Refusal) (h : Settles read_says o s s₁ w w₁ a) where
  pub check_refused : (e : Refusal) (n : ℕ) → a ≡ Err e → n ≡ number_of e → Reports o s s₁ w w₁ q q n
  unfolding read_says number_told report_told
  check_refused e n i j = reported read_says o s s₁ w w₁ q a (Err e) h i q n j refl

  pub check_done : (units : ℕ) → a ≡ Ok units → Reports o s s₁ w w₁ q (units ∷ []) 0
  unfolding read_says number_told report_told
  check_done units i = reported read_says o s s₁ w w₁ q a (Ok units) h i _ 0 refl refl

-- ---- write, as a form or as text, and reading a text into a form

module _ (o : Outcome) (s s₁ w w₁ q : List ℕ) (a : Result Written Refusal) (h : Settles write_says o s s₁ w w₁ a) where
  pub write_refused : (e : Refusal) (n : ℕ) → a ≡ Err e → n ≡ number_of e → Reports o s s₁ w w₁ q q n
  unfolding write_says number_told report_told
  write_refused e n i j = reported write_says o s s₁ w w₁ q a (Err e) h i q n j refl

  pub write_done : (v : Written) → a ≡ Ok v → Reports o s s₁ w w₁ q (v.length ∷ v.units ∷ []) 0
  unfolding write_says number_told report_told
  write_done v i = reported write_says o s s₁ w w₁ q a (Ok v) h i _ 0 refl refl

-- ---- where a text stops

module _ (o : Outcome) (s s₁ w w₁ q : List ℕ) (a : Result (Option ℕ) Refusal) (h : Settles fault_says o s s₁ w w₁ a) where
  pub fault_refused : (e : Refusal) (n : ℕ) → a ≡ Err e → n ≡ number_of e → Reports o s s₁ w w₁ q q n
  unfolding fault_says number_told report_told
  fault_refused e n i j = reported fault_says o s s₁ w w₁ q a (Err e) h i q n j refl

  pub fault_at : (p : ℕ) (x : Option ℕ) → a ≡ Ok x → x ≡ Some p → Reports o s s₁ w w₁ q (1 ∷ p ∷ []) 0
  unfolding fault_says number_told report_told
  fault_at p x i e = reported fault_says o s s₁ w w₁ q a (Ok (Some p)) h (i ∙ ap Ok e) _ 0 refl refl

  pub fault_none : (x : Option ℕ) → a ≡ Ok x → x ≡ None → Reports o s s₁ w w₁ q (0 ∷ 0 ∷ []) 0
  unfolding fault_says number_told report_told
  fault_none x i e = reported fault_says o s s₁ w w₁ q a (Ok None) h (i ∙ ap Ok e) _ 0 refl refl
