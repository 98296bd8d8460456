-- Work that goes on or is refused: over the state of a reading, of an evaluation and of a run.
use Rattle.std.specs.Prelude.{ℕ, suc, ◌+◌, List, [], ◌∷◌, ◌++◌, Bool, true, false, ◌||◌, leb, eqb}
use Rattle.refusals.specs.declared.Refusal.{Refusal}
use Rattle.refusals.specs.declared.Refusal.TheVariants.{UnitsOut, StepsOut, PassesOut}
use Rattle.meaning.specs.Tree.{Tree}
use Rattle.meaning.specs.Limits.{unit_limit, step_limit, pass_limit}

-- a result and the state after it, or a refusal and the state in which it came
pub data Out (S A : Type 0) : Type 0 where
  done : A → S → Out S A
  stop : Refusal → S → Out S A

-- work over a state S that gives an A
abbrev pub M : Type 0 → Type 0 → Type 0
M S A = S → Out S A

infixl 50 ◌>>=◌ ◌>>◌
unfoldable pub ◌>>=◌ : {S A B : Type 0} → M S A → (A → M S B) → M S B
◌>>=◌ m f = λ s. elim (m s) [ done a t ↦ f a t | stop n t ↦ stop n t ]

unfoldable pub ◌>>◌ : {S A B : Type 0} → M S A → M S B → M S B
unfolding ◌>>=◌
◌>>◌ m k = m >>= λ x. k

unfoldable pub give : {S A : Type 0} → A → M S A
give a = λ s. done a s

unfoldable pub refuse : {S A : Type 0} → Refusal → M S A
refuse n = λ s. stop n s

-- go on only where a test holds
unfoldable pub hold : {S : Type 0} → Bool → Refusal → M S (Unit {0})
unfolding give refuse
hold true n = give tt
hold false n = refuse n

-- ---- an evaluation: "4,096 steps for each evaluation", and the run's units

pub record Steps : Type 0 where
  pub steps : ℕ
  pub units : ℕ

abbrev pub E : Type 0 → Type 0
E A = M Steps A

-- refusal 7: the units have run out, so all are spent
unfoldable pub charge_e : ℕ → E (Unit {0})
charge_e c = λ s. elim (leb (s.units + c) unit_limit) [
  | true ↦ done tt (record { steps = s.steps; units = s.units + c })
  | false ↦ stop UnitsOut (record { steps = s.steps; units = unit_limit })
]

-- refusal 10: "a 4,097th evaluation step"
unfoldable pub one_step : E (Unit {0})
one_step = λ s. elim (leb (s.steps + 1) step_limit) [
  | true ↦ done tt (record { steps = s.steps + 1; units = s.units })
  | false ↦ stop StepsOut s
]

-- ---- a run: the units and passes spent, and the mark

pub record Spent : Type 0 where
  pub units : ℕ
  pub passes : ℕ
  pub mark : Bool

abbrev pub W : Type 0 → Type 0
W A = M Spent A

-- ---- the state that a run is done in, and what is noted where a rule ends a pass

pub record Over : Type 1 where
  pub S : Type 0
  -- work that notes nothing
  pub in_run : {A : Type 0} → W A → M S A
  -- rule number n ended a pass with the new tree t
  pub note : ℕ → Tree → M S (Unit {0})

-- what is spent alone
abbrev pub alone : Over
alone = record { S = Spent; in_run = λ m. m; note = λ n t. give tt }

-- the passes that rules ended, each by its rule's number and the new tree, in the order in which they ended
abbrev pub Log : Type 0
Log = List (ℕ × Tree)

-- what is spent, and the log
pub record Logged : Type 0 where
  pub spent : Spent
  pub log : Log

-- an outcome, with a log
unfoldable pub and_log : {A : Type 0} → Log → Out Spent A → Out Logged A
and_log l (done a s) = done a (record { spent = s; log = l })
and_log l (stop n s) = stop n (record { spent = s; log = l })

abbrev pub logged : Over
logged = record {
  S = Logged;
  in_run = λ m s. and_log s.log (m s.spent);
  note = λ n t s. done tt (record { spent = s.spent; log = s.log ++ ((n, t) ∷ []) });
}

-- the log after an outcome, a refusal too
unfoldable pub log_of : {A : Type 0} → Out Logged A → Log
log_of (done a s) = s.log
log_of (stop n s) = s.log

-- what work adds to a log, from where this is spent
unfoldable pub log_from : {A : Type 0} → M Logged A → Spent → Log
unfolding log_of
log_from m s = log_of (m (record { spent = s; log = [] }))

-- how many passes of a log rule number k ended
unfoldable pub count_of : ℕ → Log → ℕ
count_of k [] = 0
count_of k (e ∷ l) = elim (eqb e.0 k) [ true ↦ suc (count_of k l) | false ↦ count_of k l ]

-- ---- what a run spends

-- refusal 7
unfoldable pub charge : ℕ → W (Unit {0})
charge c = λ s. elim (leb (s.units + c) unit_limit) [
  | true ↦ done tt (record { units = s.units + c; passes = s.passes; mark = s.mark })
  | false ↦ stop UnitsOut (record { units = unit_limit; passes = s.passes; mark = s.mark })
]

-- refusal 12: "a 65,537th pass"
unfoldable pub one_pass : W (Unit {0})
one_pass = λ s. elim (leb (s.passes + 1) pass_limit) [
  | true ↦ done tt (record { units = s.units; passes = s.passes + 1; mark = s.mark })
  | false ↦ stop PassesOut s
]

-- the mark is never taken away
unfoldable pub mark_if : Bool → W (Unit {0})
mark_if b = λ s. done tt (record { units = s.units; passes = s.passes; mark = s.mark || b })

-- an evaluation as a part of a run: its steps start at none, its units are the run's
unfoldable pub within : {A : Type 0} → E A → W A
within m = λ s. elim (m (record { steps = 0; units = s.units })) [
  | done a e ↦ done a (record { units = e.units; passes = s.passes; mark = s.mark })
  | stop n e ↦ stop n (record { units = e.units; passes = s.passes; mark = s.mark })
]
