-- A log has no more entries than passes were charged. Assumes nothing.
use Prim.Native.Nat.{ℕ, zero, suc, ◌+◌, ◌≤◌}
use mathlib.Core.Path.{◌≡◌, sym, ◌∙◌, ap, subst}
use mathlib.Core.List.{List, [], ◌∷◌, ◌++◌}
use mathlib.Core.Bool.{Bool, true, false}
use mathlib.Core.Option.{Option, none, some}
use native.Mathlib.Omega.{arith}
use native.Mathlib.Nat.{add-zero}
use lib.ListN.{length, length-append}
use Rattle.refusals.specs.declared.Refusal.{Refusal}
use Rattle.meaning.specs.Tree.{Tree, atom, pair, equal_to, proper_list, is_quote}
use Rattle.meaning.specs.Limits.{pass_limit}
use Rattle.meaning.specs.Meter.{M, W, Out, done, stop, Spent, Over, Logged, and_log, logged, ◌>>=◌, ◌>>◌, give, refuse, one_pass}
use Rattle.meaning.specs.Rules.{each, settle_over, var_change_optimizer_cons_eval_over, children_over, children_optimizer_over}
use Rattle.meaning.specs.Driver.{optimizers_over, ends_pass_over, pass_over, loop_over, optimize_sexp_over, optimize_sexp, ends}
use Rattle.meaning.proofs.MeterLaws.{not_stop, bind_inv}
use Rattle.meaning.proofs.Walk.{KeptOver, walk_constant, walk_path, walk_relist, over_change, over_each}
use Rattle.meaning.proofs.Agree.{Leaves, Agree}
use Rattle.meaning.proofs.Passes.{passes_of, one_pass_more, to_be_alike}
use Rattle.meaning.proofs.Logs.{driver_with_log}

-- k and the log are within the passes
abbrev Within : ℕ → Logged → Type 0
Within k s = k + length s.log ≤ s.spent.passes

-- from where k and the log are within the passes, m ends where j and the log are
record Keeps {A : Type 0} (k j : ℕ) (m : M Logged A) : Type 0 where
  so : (s t : Logged) (a : A) → Within k s → m s ≡ done a t → Within j t

keeps_give : {A : Type 0} (k : ℕ) (a : A) → Keeps k k (give a)
unfolding give
keeps_give k a = record { so = λ s t b h e. let i : s ≡ t = cc in rw (← i) h }

keeps_refuse : {A : Type 0} (k j : ℕ) (n : Refusal) → Keeps {A = A} k j (refuse n)
unfolding refuse
keeps_refuse k j n = record { so = λ s t b h e. not_stop e }

keeps_bind : {A B : Type 0} {k j i : ℕ} {m : M Logged A} {f : A → M Logged B} → Keeps k j m → ((a : A) → Keeps j i (f a)) → Keeps k i (m >>= f)
keeps_bind {m} {f} km kf = record { so = λ s t b h e. let (a, u, p, q) = bind_inv m f s t b e in (kf a).so u t b (km.so s u a h p) q }

keeps_seq : {A B : Type 0} {k j i : ℕ} {m : M Logged A} {n : M Logged B} → Keeps k j m → Keeps j i n → Keeps k i (m >> n)
unfolding ◌>>◌
keeps_seq km kn = keeps_bind km (λ x. kn)

keeps_if : {A : Type 0} {k j : ℕ} (b : Bool) {m n : M Logged A} → Keeps k j m → Keeps k j n → Keeps {A = A} k j (elim b as (λ x. M Logged A) [ true ↦ m | false ↦ n ])
keeps_if true p q = p
keeps_if false p q = q

keeps_less : {A : Type 0} {k j : ℕ} (i : ℕ) {m : M Logged A} → i ≤ j → Keeps k j m → Keeps k i m
keeps_less i l km = record { so = λ s t a h e. let z = km.so s t a h e in omega (arith, z) }

-- work that notes nothing, in which the passes rise by c or more
keeps_run : {A : Type 0} (k c : ℕ) (m : W A) → ((i : ℕ) → Agree passes_of i (i + c) m m) → Keeps k (k + c) (logged.in_run m)
unfolding and_log Leaves
keeps_run {A} k c m up = record { so = λ s t a h e. go s t a h (m s.spent) ((up s.spent.passes).leaves s.spent (omega arith)) e }
  where
    go : (s t : Logged) (a : A) → Within k s → (o : Out Spent A) → Leaves passes_of (s.spent.passes + c) o → and_log s.log o ≡ done a t → Within (k + c) t
    go s t a h (done b x) l e = let i : record { spent = x; log = s.log } ≡ t = cc in rw (← i) (omega arith)
    go s t a h (stop n x) l e = not_stop e

keeps_quiet : {A : Type 0} (k : ℕ) (m : W A) → ((i : ℕ) → Agree passes_of i i m m) → Keeps k k (logged.in_run m)
keeps_quiet k m up = keeps_less k (omega arith) (keeps_run k 0 m (λ i. subst (λ (j : ℕ). Agree passes_of i j m m) (sym (add-zero i)) (up i)))

keeps_note : (k n : ℕ) (t : Tree) → Keeps (suc k) k (logged.note n t)
keeps_note k n t = record { so = λ s u a h e. go s u a h e }
  where
    go : (s u : Logged) (a : Unit {0}) → Within (suc k) s → logged.note n t s ≡ done a u → Within k u
    go s u a h e =
        let i : record { spent = s.spent; log = s.log ++ ((n, t) ∷ []) } ≡ u = cc in
        let z : length (s.log ++ ((n, t) ∷ [])) ≡ length s.log + 1 = length-append s.log ((n, t) ∷ []) in
        rw (← i) (omega (arith, z))

-- ---- the rules note nothing themselves

abbrev mute : Over
mute = record { S = Logged; in_run = logged.in_run; note = λ n t. give tt }

to_keep : ℕ → KeptOver mute mute
to_keep k = record {
  rel = λ m n. Keeps k k m;
  by_give = λ a. keeps_give k a;
  by_refuse = λ n h. keeps_refuse k k n;
  by_bind = λ mn fg. keeps_bind mn fg;
  by_charge = λ c. keeps_quiet k _ (λ i. (to_be_alike i).by_charge c);
  by_pass = keeps_quiet k _ (λ i. (to_be_alike i).by_pass);
  by_mark = λ b. keeps_quiet k _ (λ i. (to_be_alike i).by_mark b);
  by_constant = λ r. keeps_quiet k _ (λ i. walk_constant (to_be_alike i) r);
  by_path = λ r. keeps_quiet k _ (λ i. walk_path (to_be_alike i) r);
  by_relist = λ r es us. keeps_quiet k _ (λ i. walk_relist (to_be_alike i) r es us);
  by_note = λ n t. keeps_give k tt;
}

data AllKeep : List (Tree → M Logged Tree) → Type 0 where
  no_rules : AllKeep []
  and_rule : {f : Tree → M Logged Tree} {fs : List (Tree → M Logged Tree)} → ((k : ℕ) (t : Tree) → Keeps k k (f t)) → AllKeep fs → AllKeep (f ∷ fs)

-- a pass adds an entry at most
keeps_rules : {fs : List (Tree → M Logged Tree)} → AllKeep fs → (k n : ℕ) (r : Tree) → Keeps (suc k) k (pass_over logged n fs r)
unfolding pass_over ends_pass_over
keeps_rules no_rules k n r = keeps_less k (omega arith) (keeps_give (suc k) r)
keeps_rules (and_rule h hs) k n r = keeps_bind (h (suc k) r) (λ t. keeps_if (equal_to r t) (keeps_rules hs k (suc n) r) (keeps_seq (keeps_note k n t) (keeps_give k t)))

module _ (again : Tree → M Logged Tree) (up : (k : ℕ) (t : Tree) → Keeps k k (again t)) where
  keeps_change : (k : ℕ) (r : Tree) → Keeps k k (var_change_optimizer_cons_eval_over logged again r)
  unfolding var_change_optimizer_cons_eval_over settle_over to_keep
  keeps_change k r = over_change (to_keep k) again again (up k) r

  keeps_each : (k : ℕ) (es : List Tree) → Keeps k k (each again es)
  unfolding to_keep
  keeps_each k es = over_each (to_keep k) again again (up k) es

  keeps_list : (k : ℕ) (r : Tree) (o : Option (List Tree)) → Keeps k k (children_over logged again r o)
  unfolding children_over
  keeps_list k r none = keeps_give k r
  keeps_list k r (some []) = keeps_give k r
  keeps_list k r (some (e ∷ es)) = keeps_bind (keeps_each k (e ∷ es)) (λ us. keeps_quiet k _ (λ i. walk_relist (to_be_alike i) r (e ∷ es) us))

  keeps_children : (k : ℕ) (r : Tree) → Keeps k k (children_optimizer_over logged again r)
  unfolding children_optimizer_over
  keeps_children k r = keeps_if (is_quote r) (keeps_give k r) (keeps_list k r (proper_list r))

  keeps_optimizers : AllKeep (optimizers_over logged again)
  unfolding optimizers_over
  keeps_optimizers =
      and_rule (λ k r. keeps_give k _)
      (and_rule (λ k r. keeps_quiet k _ (λ i. walk_constant (to_be_alike i) r))
      (and_rule (λ k r. keeps_give k _)
      (and_rule keeps_change
      (and_rule keeps_children
      (and_rule (λ k r. keeps_quiet k _ (λ i. walk_path (to_be_alike i) r))
      (and_rule (λ k r. keeps_give k _)
      (and_rule (λ k r. keeps_give k _)
      no_rules)))))))

  keeps_loop : (k n : ℕ) (t : Tree) → Keeps k k (loop_over logged again n t)
  unfolding loop_over
  keeps_loop k zero t = keeps_refuse k k _
  keeps_loop k (suc n) (atom b) = keeps_give k (atom b)
  keeps_loop k (suc n) (pair l r) =
      keeps_seq (keeps_less (suc k) (omega arith) (keeps_run k 1 one_pass (λ i. subst (λ (j : ℕ). Agree passes_of i j one_pass one_pass) (omega arith) (one_pass_more i))))
      (keeps_bind (keeps_rules keeps_optimizers k 1 (pair l r)) (λ t. keeps_if (equal_to (pair l r) t) (keeps_give k (pair l r)) (keeps_loop k n t)))

keeps_driver : (d k : ℕ) (t : Tree) → Keeps k k (optimize_sexp_over logged d t)
unfolding optimize_sexp_over
keeps_driver zero k t = keeps_refuse k k _
keeps_driver (suc d) k t = keeps_loop (optimize_sexp_over logged d) (λ k u. keeps_driver d k u) k (suc pass_limit) t

-- a call that is done added no more entries than it took passes
pub ends_few : (d : ℕ) (t u : Tree) (s x : Spent) → optimize_sexp d t s ≡ done u x → s.passes + length (ends d t s) ≤ x.passes
unfolding and_log
ends_few d t u s x e =
    (keeps_driver d s.passes t).so (record { spent = s; log = [] }) (record { spent = x; log = ends d t s }) u (omega arith)
    (driver_with_log d t s [] ∙ ap (and_log (ends d t s)) e)
