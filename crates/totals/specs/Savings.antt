-- Document 02, "Ask 2": the totals over a list of forms.
use Rattle.std.specs.Prelude.{ℕ, ◌+◌, ◌-◌, ◌^◌, List, [], ◌∷◌, Bool, true, ◌&&◌, ltb, get_or, set, length}
use Rattle.refusals.specs.declared.Refusal.{Refusal}
use Rattle.refusals.specs.Numbers.{number_of}
use Rattle.meaning.specs.Meter.{Log, count_of}
use Rattle.meaning.specs.Outcome.{Outcome, answered, refused}
use Rattle.meaning.specs.Run.{run, ends_in}
use Rattle.store.specs.Cells.{pick}
use Rattle.totals.specs.declared.Savings.{Savings}

-- "Up to 4,096 forms in a report"
abbrev pub form_most : ℕ
form_most = 4_096

-- "each worked into 32,768 bytes of output"
abbrev pub output_most : ℕ
output_most = 32_768

-- a report over no forms
abbrev pub none_yet : Savings
none_yet = record {
  answered = 0;
  refused = 0 ∷ 0 ∷ 0 ∷ 0 ∷ 0 ∷ 0 ∷ 0 ∷ 0 ∷ 0 ∷ 0 ∷ 0 ∷ 0 ∷ 0 ∷ 0 ∷ [];
  marked = 0;
  before = 0;
  after = 0;
  passes = 0;
  rules = 0 ∷ 0 ∷ 0 ∷ 0 ∷ 0 ∷ 0 ∷ 0 ∷ 0 ∷ [];
}

-- ---- one form more

-- "the greatest number of passes"
unfoldable pub greater : ℕ → ℕ → ℕ
greater a b = pick (ltb a b) b a

-- "for each of the eight rules how often it ended a pass": rule number k did so c k times more
unfoldable pub rules_with : List ℕ → (ℕ → ℕ) → List ℕ
rules_with n c =
    (get_or n 0 0 + c 1) ∷ (get_or n 1 0 + c 2) ∷ (get_or n 2 0 + c 3) ∷ (get_or n 3 0 + c 4) ∷ (get_or n 4 0 + c 5) ∷ (get_or n 5 0 + c 6) ∷ (get_or n 6 0 + c 7) ∷ (get_or n 7 0 + c 8) ∷ []

-- an answered form: its bytes as submitted and as finished, its passes, its mark, and how often each rule ended a pass
unfoldable pub with_answer : Savings → ℕ → ℕ → ℕ → ℕ → (ℕ → ℕ) → Savings
unfolding greater rules_with
with_answer s before after passes mark c = record {
  answered = s.answered + 1;
  refused = s.refused;
  marked = s.marked + mark;
  before = s.before + before;
  after = s.after + after;
  passes = greater s.passes passes;
  rules = rules_with s.rules c;
}

-- a refused form: it stands in the column of its number, and nowhere else
unfoldable pub with_refusal : Savings → Refusal → Savings
with_refusal s n = record {
  answered = s.answered;
  refused = set s.refused (number_of n - 1) (get_or s.refused (number_of n - 1) 0 + 1);
  marked = s.marked;
  before = s.before;
  after = s.after;
  passes = s.passes;
  rules = s.rules;
}

-- by a form's outcome, which tells length, passes, units and mark, and the passes that rules ended
unfoldable pub with_outcome : Savings → List ℕ → Log → Outcome → Savings
unfolding with_answer with_refusal count_of
with_outcome s form l (answered bytes tag numbers) = with_answer s (length form) (length bytes) (get_or numbers 1 0) (get_or numbers 3 0) (λ k. count_of k l)
with_outcome s form l (refused n) = with_refusal s n

-- the report with a form more, of which `optimise` makes what it makes with this room and 32,768 bytes of output
unfoldable pub with_form : ℕ → Savings → List ℕ → Savings
unfolding with_outcome ends_in run
with_form room-length s form = with_outcome s form (ends_in form) (run form room-length output_most)

-- ---- the report over a list of forms

unfoldable pub savings_from : ℕ → Savings → List (List ℕ) → Savings
unfolding with_form
savings_from room-length s [] = s
savings_from room-length s (f ∷ fs) = savings_from room-length (with_form room-length s f) fs

unfoldable pub savings_of : ℕ → List (List ℕ) → Savings
unfolding savings_from
savings_of room-length fs = savings_from room-length none_yet fs

-- ---- whether it takes another

unfoldable pub sum_from : ℕ → List ℕ → ℕ
sum_from n [] = n
sum_from n (m ∷ ms) = sum_from (n + m) ms

-- the forms that stand in a report
unfoldable pub forms_of : Savings → ℕ
unfolding sum_from
forms_of s = sum_from s.answered s.refused

-- no more than a report may have
unfoldable pub fewer : ℕ → ℕ
fewer n = pick (ltb n form_most) n form_most

-- numbers that no report reaches: a caller's number this great would not leave a sum within 64 bits
unfoldable pub small_all : List ℕ → Bool
small_all [] = true
small_all (n ∷ ns) = ltb n (2 ^ 63) && small_all ns

unfoldable pub is_open : Savings → Bool
unfolding forms_of small_all
is_open s = ltb (forms_of s) form_most && (small_all (s.marked ∷ s.before ∷ s.after ∷ s.passes ∷ []) && small_all s.rules)
