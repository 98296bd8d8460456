-- The log changes nothing else: with a log, a run does what it does without, and what it adds depends on what is spent alone. Assumes nothing.
use Prim.Native.Nat.{ℕ, zero, suc}
use mathlib.Core.Path.{◌≡◌, refl, sym, ◌∙◌, ap}
use mathlib.Core.List.{[], ◌∷◌, ◌++◌, append-nil, append_assoc}
use Rattle.refusals.specs.declared.Refusal.{Refusal}
use Rattle.meaning.specs.Tree.{Tree}
use Rattle.meaning.specs.Limits.{pass_limit}
use Rattle.meaning.specs.Meter.{M, W, Out, done, stop, Spent, alone, Log, Logged, and_log, logged, log_of, log_from, ◌>>=◌, give, refuse}
use Rattle.meaning.specs.Driver.{optimize_sexp_over, optimize_sexp, ends}
use Rattle.meaning.proofs.MeterLaws.{bind_at}
use Rattle.meaning.proofs.BindLaws.{bind_stop}
use Rattle.meaning.proofs.Walk.{KeptOver, over_loop}

-- n does what m does, from any log, and adds to it what `added` says
pub record Logs {A : Type 0} (m : W A) (n : M Logged A) : Type 0 where
  pub added : Spent → Log
  pub same : (s : Spent) (l : Log) → n (record { spent = s; log = l }) ≡ and_log (l ++ added s) (m s)

-- work that notes nothing
pub logs_run : {A : Type 0} (m : W A) → Logs m (logged.in_run m)
logs_run m = record { added = λ s. []; same = λ s l. ap (λ (k : Log). and_log k (m s)) (sym (append-nil l)) }

pub logs_give : {A : Type 0} (a : A) → Logs {A = A} (give a) (give a)
unfolding give and_log
logs_give a = record { added = λ s. []; same = λ s l. ap (λ (k : Log). done a (record { spent = s; log = k })) (sym (append-nil l)) }

pub logs_refuse : {A : Type 0} (n : Refusal) → Logs {A = A} (refuse n) (refuse n)
unfolding refuse and_log
logs_refuse n = record { added = λ s. []; same = λ s l. ap (λ (k : Log). stop n (record { spent = s; log = k })) (sym (append-nil l)) }

pub logs_note : (n : ℕ) (t : Tree) → Logs (alone.note n t) (logged.note n t)
unfolding give and_log
logs_note n t = record { added = λ s. (n, t) ∷ []; same = λ s l. refl }

pub logs_bind : {A B : Type 0} {m : W A} {n : M Logged A} {f : A → W B} {g : A → M Logged B} → Logs m n → ((a : A) → Logs (f a) (g a)) → Logs (m >>= f) (n >>= g)
unfolding ◌>>=◌ and_log
logs_bind {A} {B} {m} {n} {f} {g} mn fg = record {
  added = λ s. mn.added s ++ then (m s);
  same = λ s l. ap on (mn.same s l) ∙ go (mn.added s) l (m s);
}
  where
    on : Out Logged A → Out Logged B
    on o = elim o [ done a t ↦ g a t | stop r t ↦ stop r t ]

    on_alone : Out Spent A → Out Spent B
    on_alone o = elim o [ done a t ↦ f a t | stop r t ↦ stop r t ]

    then : Out Spent A → Log
    then (done a t) = (fg a).added t
    then (stop r t) = []

    go : (x l : Log) (o : Out Spent A) → on (and_log (l ++ x) o) ≡ and_log (l ++ (x ++ then o)) (on_alone o)
    go x l (done a t) = (fg a).same t (l ++ x) ∙ ap (λ (k : Log). and_log k (f a t)) (append_assoc l x ((fg a).added t))
    go x l (stop r t) = ap (λ (k : Log). stop r (record { spent = t; log = l ++ k })) (sym (append-nil x))

-- this is kept by the ways of putting work together
abbrev pub to_log : KeptOver alone logged
to_log = record {
  rel = λ m n. Logs m n;
  by_give = logs_give;
  by_refuse = λ n h. logs_refuse n;
  by_bind = λ mn fg. logs_bind mn fg;
  by_charge = λ c. logs_run _;
  by_pass = logs_run _;
  by_mark = λ b. logs_run _;
  by_constant = λ r. logs_run _;
  by_path = λ r. logs_run _;
  by_relist = λ r es us. logs_run _;
  by_note = logs_note;
}

pub logs_driver : (d : ℕ) (t : Tree) → Logs (optimize_sexp d t) (optimize_sexp_over logged d t)
unfolding optimize_sexp
logs_driver zero t = logs_refuse _
logs_driver (suc d) t = over_loop to_log (optimize_sexp_over alone d) (optimize_sexp_over logged d) (logs_driver d) (suc pass_limit) t

-- ---- what is added, read off a run from an empty log

module _ {A : Type 0} {m : W A} {n : M Logged A} (h : Logs m n) where
  pub log_of_and : (l : Log) (o : Out Spent A) → log_of (and_log l o) ≡ l
  unfolding log_of and_log
  log_of_and l (done a s) = refl
  log_of_and l (stop r s) = refl

  pub added_is : (s : Spent) → log_from n s ≡ h.added s
  unfolding log_from
  added_is s = ap log_of (h.same s []) ∙ log_of_and (h.added s) (m s)

  -- the log changes nothing else, and is only added to
  pub with_log : (s : Spent) (l : Log) → n (record { spent = s; log = l }) ≡ and_log (l ++ log_from n s) (m s)
  with_log s l = h.same s l ∙ ap (λ (k : Log). and_log (l ++ k) (m s)) (sym (added_is s))

-- the run with a log is the run without, and adds what `ends` says: refused or not
pub driver_with_log : (d : ℕ) (t : Tree) (s : Spent) (l : Log) → optimize_sexp_over logged d t (record { spent = s; log = l }) ≡ and_log (l ++ ends d t s) (optimize_sexp d t s)
unfolding ends
driver_with_log d t s l = with_log (logs_driver d t) s l

-- ---- the log of two pieces of work

module _ {A B : Type 0} {m : W A} {n : M Logged A} (h : Logs m n) (g : A → M Logged B) (s : Spent) where
  from_empty : (o : Out Spent A) → m s ≡ o → n (record { spent = s; log = [] }) ≡ and_log (log_from n s) o
  from_empty o e = with_log h s [] ∙ ap (and_log (log_from n s)) e

  -- the first is refused: its log
  pub log_stops : (r : Refusal) (t : Spent) → m s ≡ stop r t → log_from (n >>= g) s ≡ log_from n s
  unfolding log_from log_of and_log
  log_stops r t e = ap log_of (bind_stop n g _ _ r (from_empty (stop r t) e))

  -- it is done: its log, and then the second's
  pub log_goes_on : {f : A → W B} (k : (a : A) → Logs (f a) (g a)) (a : A) (t : Spent) → m s ≡ done a t → log_from (n >>= g) s ≡ log_from n s ++ log_from (g a) t
  unfolding log_from log_of and_log
  log_goes_on {f} k a t e =
      ap log_of (bind_at n g _ _ a (from_empty (done a t) e) ∙ with_log (k a) t (log_from n s)) ∙ log_of_and (k a) (log_from n s ++ log_from (g a) t) (f a t)
