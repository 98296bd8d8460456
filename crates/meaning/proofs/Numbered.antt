-- Every entry of a log has a rule's number, of 1 or more: where the work is refused too. Assumes nothing.
use Prim.Native.Nat.{ℕ, zero, suc, ◌<◌}
use mathlib.Core.List.{List, [], ◌∷◌, ◌++◌}
use mathlib.Core.Bool.{Bool, true, false}
use mathlib.Core.Option.{Option, none, some}
use native.Mathlib.Omega.{arith}
use Rattle.refusals.specs.declared.Refusal.{Refusal}
use Rattle.meaning.specs.Tree.{Tree, atom, pair, equal_to, proper_list, is_quote}
use Rattle.meaning.specs.Limits.{pass_limit, nesting_limit}
use Rattle.meaning.specs.Meter.{M, W, Out, done, stop, Spent, Over, Log, Logged, and_log, logged, log_of, log_from, ◌>>=◌, ◌>>◌, give, refuse, one_pass}
use Rattle.meaning.specs.Rules.{each, settle_over, var_change_optimizer_cons_eval_over, children_over, children_optimizer_over}
use Rattle.meaning.specs.Driver.{optimizers_over, ends_pass_over, pass_over, loop_over, optimize_sexp_over, ends}
use Rattle.meaning.specs.Form.{Reading, read_form}
use Rattle.meaning.specs.Run.{after_reading, ends_on, ends_in}
use Rattle.meaning.proofs.Walk.{KeptOver, over_change, over_each}

-- no entry of a log has the number 0
pub data Numbered : Log → Type 0 where
  no_entries : Numbered []
  and_entry : {e : ℕ × Tree} {l : Log} → 0 < e.0 → Numbered l → Numbered (e ∷ l)

-- an entry more, at the end
pub numbered_more : {l : Log} (n : ℕ) (t : Tree) → 0 < n → Numbered l → Numbered (l ++ ((n, t) ∷ []))
numbered_more n t h no_entries = and_entry h no_entries
numbered_more n t h (and_entry a k) = and_entry a (numbered_more n t h k)

-- ---- work after which a log is numbered if it was before, at its end or its refusal

record Keeps {A : Type 0} (m : M Logged A) : Type 0 where
  so : (s : Logged) → Numbered s.log → Numbered (log_of (m s))

keeps_give : {A : Type 0} (a : A) → Keeps (give a)
unfolding give log_of
keeps_give a = record { so = λ s h. h }

keeps_refuse : {A : Type 0} (n : Refusal) → Keeps {A = A} (refuse n)
unfolding refuse log_of
keeps_refuse n = record { so = λ s h. h }

keeps_bind : {A B : Type 0} {m : M Logged A} {f : A → M Logged B} → Keeps m → ((a : A) → Keeps (f a)) → Keeps (m >>= f)
unfolding ◌>>=◌ log_of
keeps_bind {A} {B} {m} {f} km kf = record { so = λ s h. go (m s) (km.so s h) }
  where
    go : (o : Out Logged A) → Numbered (log_of o) → Numbered (log_of {A = B} (elim o [ done a t ↦ f a t | stop n t ↦ stop n t ]))
    go (done a t) h = (kf a).so t h
    go (stop n t) h = h

keeps_seq : {A B : Type 0} {m : M Logged A} {n : M Logged B} → Keeps m → Keeps n → Keeps (m >> n)
unfolding ◌>>◌
keeps_seq km kn = keeps_bind km (λ x. kn)

keeps_if : {A : Type 0} (b : Bool) {m n : M Logged A} → Keeps m → Keeps n → Keeps {A = A} (elim b as (λ x. M Logged A) [ true ↦ m | false ↦ n ])
keeps_if true p q = p
keeps_if false p q = q

-- work that notes nothing
keeps_run : {A : Type 0} (m : W A) → Keeps (logged.in_run m)
unfolding and_log log_of
keeps_run {A} m = record { so = λ s h. go s.log h (m s.spent) }
  where
    go : (l : Log) → Numbered l → (o : Out Spent A) → Numbered (log_of (and_log l o))
    go l h (done a t) = h
    go l h (stop n t) = h

keeps_note : (n : ℕ) (t : Tree) → 0 < n → Keeps (logged.note n t)
unfolding log_of
keeps_note n t p = record { so = λ s h. numbered_more n t p h }

-- ---- the rules note nothing themselves

abbrev mute : Over
mute = record { S = Logged; in_run = logged.in_run; note = λ n t. give tt }

to_keep : KeptOver mute mute
to_keep = record {
  rel = λ m n. Keeps m;
  by_give = λ a. keeps_give a;
  by_refuse = λ n h. keeps_refuse n;
  by_bind = λ mn fg. keeps_bind mn fg;
  by_charge = λ c. keeps_run _;
  by_pass = keeps_run _;
  by_mark = λ b. keeps_run _;
  by_constant = λ r. keeps_run _;
  by_path = λ r. keeps_run _;
  by_relist = λ r es us. keeps_run _;
  by_note = λ n t. keeps_give tt;
}

data AllKeep : List (Tree → M Logged Tree) → Type 0 where
  no_rules : AllKeep []
  and_rule : {f : Tree → M Logged Tree} {fs : List (Tree → M Logged Tree)} → ((t : Tree) → Keeps (f t)) → AllKeep fs → AllKeep (f ∷ fs)

-- a pass over rules that are numbered from 1 or more
keeps_rules : {fs : List (Tree → M Logged Tree)} → AllKeep fs → (n : ℕ) → 0 < n → (r : Tree) → Keeps (pass_over logged n fs r)
unfolding pass_over ends_pass_over
keeps_rules no_rules n p r = keeps_give r
keeps_rules (and_rule h hs) n p r = keeps_bind (h r) (λ t. keeps_if (equal_to r t) (keeps_rules hs (suc n) (omega arith) r) (keeps_seq (keeps_note n t p) (keeps_give t)))

module _ (again : Tree → M Logged Tree) (up : (t : Tree) → Keeps (again t)) where
  keeps_change : (r : Tree) → Keeps (var_change_optimizer_cons_eval_over logged again r)
  unfolding var_change_optimizer_cons_eval_over settle_over to_keep
  keeps_change r = over_change to_keep again again up r

  keeps_each : (es : List Tree) → Keeps (each again es)
  unfolding to_keep
  keeps_each es = over_each to_keep again again up es

  keeps_list : (r : Tree) (o : Option (List Tree)) → Keeps (children_over logged again r o)
  unfolding children_over
  keeps_list r none = keeps_give r
  keeps_list r (some []) = keeps_give r
  keeps_list r (some (e ∷ es)) = keeps_bind (keeps_each (e ∷ es)) (λ us. keeps_run _)

  keeps_children : (r : Tree) → Keeps (children_optimizer_over logged again r)
  unfolding children_optimizer_over
  keeps_children r = keeps_if (is_quote r) (keeps_give r) (keeps_list r (proper_list r))

  keeps_optimizers : AllKeep (optimizers_over logged again)
  unfolding optimizers_over
  keeps_optimizers =
      and_rule (λ r. keeps_give _)
      (and_rule (λ r. keeps_run _)
      (and_rule (λ r. keeps_give _)
      (and_rule keeps_change
      (and_rule keeps_children
      (and_rule (λ r. keeps_run _)
      (and_rule (λ r. keeps_give _)
      (and_rule (λ r. keeps_give _)
      no_rules)))))))

  keeps_loop : (n : ℕ) (t : Tree) → Keeps (loop_over logged again n t)
  unfolding loop_over
  keeps_loop zero t = keeps_refuse _
  keeps_loop (suc n) (atom b) = keeps_give (atom b)
  keeps_loop (suc n) (pair l r) =
      keeps_seq (keeps_run one_pass)
      (keeps_bind (keeps_rules keeps_optimizers 1 (omega arith) (pair l r)) (λ t. keeps_if (equal_to (pair l r) t) (keeps_give (pair l r)) (keeps_loop n t)))

keeps_driver : (d : ℕ) (t : Tree) → Keeps (optimize_sexp_over logged d t)
unfolding optimize_sexp_over
keeps_driver zero t = keeps_refuse _
keeps_driver (suc d) t = keeps_loop (optimize_sexp_over logged d) (λ u. keeps_driver d u) (suc pass_limit) t

-- the log of a call, ended or refused
pub call_numbered : (d : ℕ) (t : Tree) (s : Spent) → Numbered (ends d t s)
unfolding ends log_from
call_numbered d t s = (keeps_driver d t).so (record { spent = s; log = [] }) no_entries

-- the log of the work on a form, answered or refused
pub ends_numbered : (form : List ℕ) → Numbered (ends_in form)
unfolding ends_in ends_on
ends_numbered form = go (read_form form 0)
  where
    go : (o : Out Reading Tree) → Numbered (ends_on o)
    go (done t r) = call_numbered nesting_limit t (after_reading r)
    go (stop n r) = no_entries
