-- The log of a call, of a pass, of a rule and of a walk over a list, step by step. Assumes nothing.
use Prim.Native.Nat.{ℕ, zero, suc, ◌+◌, ◌-◌, ◌*◌, ◌<◌, ◌≤◌}
use mathlib.Core.Path.{◌≡◌, refl, sym, ◌∙◌, ap}
use mathlib.Core.List.{List, [], ◌∷◌, ◌++◌, append-nil}
use mathlib.Core.Bool.{Bool, true, false}
use mathlib.Core.Option.{Option, none, some}
use native.Mathlib.Omega.{arith}
use lib.ListN.{length, get_or, drop}
use lib.Seq.{drop-cons}
use Rattle.refusals.specs.declared.Refusal.{Refusal}
use Rattle.refusals.specs.declared.Refusal.TheVariants.{PassesOut}
use Rattle.meaning.specs.Tree.{Tree, atom, pair, equal_to, proper_list, is_quote, enlist}
use Rattle.meaning.specs.Limits.{pass_limit, pair_cost}
use Rattle.meaning.specs.Meter.{M, W, Out, done, stop, Spent, alone, Log, Logged, and_log, logged, log_of, log_from, ◌>>=◌, ◌>>◌, give, charge, mark_if, one_pass}
use Rattle.meaning.specs.Constant.{seems_constant}
use Rattle.meaning.specs.Substitute.{sub_args, sub_cost, reads_low, is_proper}
use Rattle.meaning.specs.Rules.{applied_of, applied, not_applied, each, none_of, non_constant, settle_over, var_change_optimizer_cons_eval_over, relist, children_over, children_optimizer_over}
use Rattle.meaning.specs.Driver.{optimizers_over, optimizers, ends_pass_over, pass_over, optimize_sexp_over, optimize_sexp, ends}
use Rattle.meaning.proofs.Tests.{on_bool}
use Rattle.meaning.proofs.SameLaws.{equal_to_same}
use Rattle.meaning.proofs.BindLaws.{bind_assoc}
use Rattle.meaning.proofs.Proper.{proper_yes, proper_no}
use Rattle.meaning.proofs.Walk.{KeptOver, over_each, over_settle, over_pass, over_rest, over_rule, over_loop, walk_constant, walk_path, walk_relist}
use Rattle.meaning.proofs.Logs.{Logs, logs_run, logs_give, logs_note, logs_bind, to_log, logs_driver, log_of_and, log_stops, log_goes_on}
use Rattle.meaning.proofs.Agree.{Leaves, Agree, agree_give, agree_refuse, agree_bind, agree_self}
use Rattle.meaning.proofs.Passes.{passes_of, one_pass_more, to_be_alike}
use Rattle.meaning.proofs.LoopFuel.{passes_out, next_over}

-- ---- work that notes nothing

abbrev pub Silent : {A : Type 0} → M Logged A → Type 0
Silent n = (s : Spent) → log_from n s ≡ []

pub silent_run : {A : Type 0} (m : W A) → Silent (logged.in_run m)
unfolding log_from
silent_run m s = log_of_and (logs_run m) [] (m s)

pub silent_give : {A : Type 0} (a : A) → Silent (give a)
unfolding log_from log_of give
silent_give a s = refl

module _ {A B : Type 0} {m : W A} {n : M Logged A} (h : Logs m n) {f : A → W B} (g : A → M Logged B) (k : (a : A) → Logs (f a) (g a)) where
  -- before work that notes nothing: the first's log
  pub then_silent : ((a : A) → Silent (g a)) → (s : Spent) → log_from (n >>= g) s ≡ log_from n s
  then_silent q s = go (m s) refl
    where
      go : (o : Out Spent A) → m s ≡ o → log_from (n >>= g) s ≡ log_from n s
      go (done a t) e = log_goes_on h g s k a t e ∙ ap (log_from n s ++◌) (q a t) ∙ append-nil (log_from n s)
      go (stop r t) e = log_stops h g s r t e

  -- after work that notes nothing: the second's
  pub silent_then : Silent n → (s : Spent) (a : A) (t : Spent) → m s ≡ done a t → log_from (n >>= g) s ≡ log_from (g a) t
  silent_then q s a t e = log_goes_on h g s k a t e ∙ ap (◌++ log_from (g a) t) (q s)

  pub silent_stops : Silent n → (s : Spent) (r : Refusal) (t : Spent) → m s ≡ stop r t → log_from (n >>= g) s ≡ []
  silent_stops q s r t e = log_stops h g s r t e ∙ q s

  pub silent_both : Silent n → ((a : A) → Silent (g a)) → Silent (n >>= g)
  silent_both q qs s = then_silent qs s ∙ q s

-- work that notes nothing, beside the same without a log
pub record Hush {A : Type 0} (m : W A) (n : M Logged A) : Type 0 where
  pub logs : Logs m n
  pub silent : Silent n

pub hush_run : {A : Type 0} (m : W A) → Hush m (logged.in_run m)
hush_run m = record { logs = logs_run m; silent = silent_run m }

pub hush_give : {A : Type 0} (a : A) → Hush {A = A} (give a) (give a)
hush_give a = record { logs = logs_give a; silent = silent_give a }

pub hush_seq : {A B : Type 0} {m : W A} {n : M Logged A} {k : W B} {l : M Logged B} → Hush m n → Hush k l → Hush (m >> k) (n >> l)
unfolding ◌>>◌
hush_seq mn kl = record { logs = logs_bind mn.logs (λ y. kl.logs); silent = silent_both mn.logs _ (λ y. kl.logs) mn.silent (λ y. kl.silent) }

pub hush_if : {A : Type 0} (b : Bool) {k l : W A} {m n : M Logged A} → Hush k m → Hush l n
    → Hush {A = A} (elim b as (λ x. W A) [ true ↦ k | false ↦ l ]) (elim b as (λ x. M Logged A) [ true ↦ m | false ↦ n ])
hush_if true p q = p
hush_if false p q = q

-- work, and then some that notes nothing
pub hushed : {A B : Type 0} {m : W A} {n : M Logged A} {f : A → W B} {g : A → M Logged B} → Logs m n → ((a : A) → Hush (f a) (g a)) → (s : Spent) → log_from (n >>= g) s ≡ log_from n s
hushed h k s = then_silent h _ (λ a. (k a).logs) (λ a. (k a).silent) s

-- ---- the walk over a list

-- what the elements of a list, worked one after the other with d calls left to nest, add; what follows a refusal is not worked
unfoldable pub ends_over : ℕ → Tree → Spent → Log
unfolding ends optimize_sexp
ends_over d (atom b) s = []
ends_over d (pair h t) s = ends d h s ++ elim (optimize_sexp d h s) [ done u x ↦ ends_over d t x | stop n x ↦ [] ]

module _ (d : ℕ) where
  abbrev next : Tree → M Logged Tree
  next = optimize_sexp_over logged d

  logs_each : (es : List Tree) → Logs (each (optimize_sexp d) es) (each next es)
  logs_each es = over_each to_log (optimize_sexp d) next (logs_driver d) es

  each_ends : (t : Tree) (es : List Tree) → proper_list t ≡ some es → (s : Spent) → log_from (each next es) s ≡ ends_over d t s
  unfolding each ends_over proper_list ends
  each_ends (atom []) es p s = let e : es ≡ [] = cc in rw e (silent_give {A = List Tree} [] s)
  each_ends (atom (b ∷ bs)) es p s = cc
  each_ends (pair h t) es p s = go (proper_list t) (each_ends t) p
    where
      go : (o : Option (List Tree)) → ((ts : List Tree) → o ≡ some ts → (x : Spent) → log_from (each next ts) x ≡ ends_over d t x)
          → elim o [ none ↦ none | some ts ↦ some (h ∷ ts) ] ≡ some es → log_from (each next es) s ≡ ends_over d (pair h t) s
      go none ih k = cc
      go (some ts) ih k = let e : h ∷ ts ≡ es = cc in rw (← e) (at (optimize_sexp d h s) refl)
        where
          rest : Tree → M Logged (List Tree)
          rest u = each next ts >>= λ us. give (u ∷ us)

          logs_rest : (u : Tree) → Logs (each (optimize_sexp d) ts >>= λ us. give (u ∷ us)) (rest u)
          logs_rest u = logs_bind (logs_each ts) (λ us. logs_give (u ∷ us))

          at : (o : Out Spent Tree) → optimize_sexp d h s ≡ o → log_from (next h >>= rest) s ≡ ends d h s ++ elim o [ done u x ↦ ends_over d t x | stop n x ↦ [] ]
          at (done u x) e =
              log_goes_on (logs_driver d h) rest s logs_rest u x e
              ∙ ap (ends d h s ++◌) (then_silent (logs_each ts) (λ us. give (u ∷ us)) (λ us. logs_give (u ∷ us)) (λ us. silent_give (u ∷ us)) x ∙ ih ts refl x)
          at (stop n x) e = log_stops (logs_driver d h) rest s n x e ∙ sym (append-nil (ends d h s))

  -- ---- rule 4: what is added from the changed body on

  -- what rule 4 adds from its changed body on
  unfoldable pub settle_ends : Tree → Tree → Bool → Spent → Log
  settle_ends r new low s = log_from (settle_over logged next r new low) s

  module _ (r new : Tree) (low : Bool) where
    end : List Tree → M Logged Tree
    end us = elim (none_of non_constant us) [ true ↦ logged.in_run (charge (pair_cost * length us)) >> (logged.in_run (mark_if low) >> give (enlist us)) | false ↦ give r ]

    end_alone : List Tree → W Tree
    end_alone us = elim (none_of non_constant us) [ true ↦ charge (pair_cost * length us) >> (mark_if low >> give (enlist us)) | false ↦ give r ]

    hush_end : (us : List Tree) → Hush (end_alone us) (end us)
    unfolding end end_alone
    hush_end us = hush_if (none_of non_constant us) (hush_seq (hush_run _) (hush_seq (hush_run _) (hush_give (enlist us)))) (hush_give r)

    pub settle_constant_ends : seems_constant new ≡ true → (s : Spent) → settle_ends r new low s ≡ ends d new s
    unfolding settle_ends settle_over ends
    settle_constant_ends c s = rw (c, settle_over) (hushed (logs_driver d new) (λ t. hush_seq (hush_run (mark_if low)) (hush_give t)) s)

    module _ (c : seems_constant new ≡ false) where
      pub settle_improper_ends : is_proper new ≡ false → (s : Spent) → settle_ends r new low s ≡ []
      unfolding settle_ends settle_over
      settle_improper_ends p s = rw (c, proper_no new p, settle_over) (silent_give r s)

      pub settle_list_ends : is_proper new ≡ true → (s : Spent) → settle_ends r new low s ≡ ends_over d new s
      unfolding settle_ends settle_over end end_alone
      settle_list_ends p s = let (es, e) = proper_yes new p in rw (c, e, settle_over) (hushed (logs_each es) hush_end s ∙ each_ends new es e s)

  -- ---- the rules by their numbers

  -- what rule number k adds
  unfoldable pub rule_ends : ℕ → Tree → Spent → Log
  rule_ends k t s = log_from (get_or (optimizers_over logged next) (k - 1) give t) s

  rule_at : (j : ℕ) (t : Tree) (s : Spent) → (j ≡ 3 → ⊥) → (j ≡ 4 → ⊥) → log_from (get_or (optimizers_over logged next) j give t) s ≡ []
  unfolding optimizers_over
  rule_at zero t s h i = silent_give _ s
  rule_at (suc zero) t s h i = silent_run _ s
  rule_at (suc (suc zero)) t s h i = silent_give _ s
  rule_at (suc (suc (suc zero))) t s h i = absurd (h (omega arith))
  rule_at (suc (suc (suc (suc zero)))) t s h i = absurd (i (omega arith))
  rule_at (suc (suc (suc (suc (suc zero))))) t s h i = silent_run _ s
  rule_at (suc (suc (suc (suc (suc (suc zero)))))) t s h i = silent_give _ s
  rule_at (suc (suc (suc (suc (suc (suc (suc zero))))))) t s h i = silent_give _ s
  rule_at (suc (suc (suc (suc (suc (suc (suc (suc j)))))))) t s h i = silent_give t s

  -- a rule that does not call the driver adds nothing
  pub simple_ends : (k : ℕ) → 0 < k → (k ≡ 4 → ⊥) → (k ≡ 5 → ⊥) → (t : Tree) (s : Spent) → rule_ends k t s ≡ []
  unfolding rule_ends
  simple_ends k l h i t s = rule_at (k - 1) t s (λ e. h (omega arith)) (λ e. i (omega arith))

  -- ---- rule 4

  pub not_applied_ends : (t : Tree) → applied_of t ≡ not_applied → (s : Spent) → rule_ends 4 t s ≡ []
  unfolding rule_ends optimizers_over var_change_optimizer_cons_eval_over
  not_applied_ends t e s = rw (e, var_change_optimizer_cons_eval_over) (silent_give t s)

  module _ (t b a : Tree) (e : applied_of t ≡ applied b a) (s : Spent) where
    logs_settle : Logs (settle_over alone (optimize_sexp d) t (sub_args b a) (reads_low b)) (settle_over logged next t (sub_args b a) (reads_low b))
    logs_settle = over_settle to_log (optimize_sexp d) next (logs_driver d) t (sub_args b a) (reads_low b)

    pub charged_ends : (x : Spent) → charge (sub_cost b a) s ≡ done tt x → rule_ends 4 t s ≡ settle_ends t (sub_args b a) (reads_low b) x
    unfolding settle_ends rule_ends optimizers_over var_change_optimizer_cons_eval_over ◌>>◌
    charged_ends x p = rw (e, var_change_optimizer_cons_eval_over) (silent_then (logs_run (charge (sub_cost b a))) _ (λ y. logs_settle) (silent_run _) s tt x p)

    pub uncharged_ends : (n : Refusal) (x : Spent) → charge (sub_cost b a) s ≡ stop n x → rule_ends 4 t s ≡ []
    unfolding rule_ends optimizers_over var_change_optimizer_cons_eval_over ◌>>◌
    uncharged_ends n x p = rw (e, var_change_optimizer_cons_eval_over) (silent_stops (logs_run (charge (sub_cost b a))) _ (λ y. logs_settle) (silent_run _) s n x p)

  -- ---- rule 5

  pub quote_ends : (t : Tree) → is_quote t ≡ true → (s : Spent) → rule_ends 5 t s ≡ []
  unfolding rule_ends optimizers_over children_optimizer_over
  quote_ends t q s = rw (q, children_optimizer_over) (silent_give t s)

  pub improper_ends : (t : Tree) → is_proper t ≡ false → (s : Spent) → rule_ends 5 t s ≡ []
  unfolding rule_ends optimizers_over children_optimizer_over
  improper_ends t p s = on_bool (is_quote t) (λ q. rw (q, children_optimizer_over) (silent_give t s)) (λ q. rw (q, proper_no t p, children_optimizer_over) (silent_give t s))

  of_list : (t : Tree) (es : List Tree) → proper_list t ≡ some es → (s : Spent) → log_from (children_over logged next t (some es)) s ≡ ends_over d t s
  unfolding children_over each
  of_list t [] p s = silent_give t s ∙ sym (silent_give {A = List Tree} [] s) ∙ each_ends t [] p s
  of_list t (e ∷ es) p s = hushed (logs_each (e ∷ es)) (λ us. hush_run (relist t (e ∷ es) us)) s ∙ each_ends t (e ∷ es) p s

  pub list_ends : (t : Tree) → is_quote t ≡ false → is_proper t ≡ true → (s : Spent) → rule_ends 5 t s ≡ ends_over d t s
  unfolding rule_ends optimizers_over children_optimizer_over
  list_ends t q p s = let (es, e) = proper_yes t p in rw (q, e, children_optimizer_over) (of_list t es e s)

-- ---- the passes of a run with a log: as without

abbrev passes_logged : Logged → ℕ
passes_logged s = s.spent.passes

-- what m leaves, it leaves with a log
leaves_logged : {A : Type 0} (j : ℕ) (l : Log) (o : Out Spent A) → Leaves passes_of j o → Leaves passes_logged j (and_log l o)
unfolding Leaves and_log
leaves_logged j l (done a s) h = h
leaves_logged j l (stop n s) h = tt

run_agrees : {A : Type 0} (k j : ℕ) (m : W A) → Agree passes_of k j m m → Agree passes_logged k j (logged.in_run m) (logged.in_run m)
run_agrees k j m a = record { same = λ s h. refl; leaves = λ s h. leaves_logged j s.log (m s.spent) (a.leaves s.spent h) }

note_agrees : (k n : ℕ) (t : Tree) → Agree passes_logged k k (logged.note n t) (logged.note n t)
unfolding Leaves
note_agrees k n t = agree_self passes_logged k (logged.note n t) λ s. omega arith

to_be_alike_logged : ℕ → KeptOver logged logged
to_be_alike_logged k = record {
  rel = λ m n. Agree passes_logged k k m n;
  by_give = λ a. agree_give passes_logged k a;
  by_refuse = λ n h. agree_refuse passes_logged k k n;
  by_bind = λ mn fg. agree_bind passes_logged mn fg;
  by_charge = λ c. run_agrees k k _ ((to_be_alike k).by_charge c);
  by_pass = run_agrees k k _ (to_be_alike k).by_pass;
  by_mark = λ b. run_agrees k k _ ((to_be_alike k).by_mark b);
  by_constant = λ r. run_agrees k k _ (walk_constant (to_be_alike k) r);
  by_path = λ r. run_agrees k k _ (walk_path (to_be_alike k) r);
  by_relist = λ r es us. run_agrees k k _ (walk_relist (to_be_alike k) r es us);
  by_note = note_agrees k;
}

alike_logged : (d k : ℕ) (t : Tree) → Agree passes_logged k k (optimize_sexp_over logged d t) (optimize_sexp_over logged d t)
unfolding optimize_sexp_over to_be_alike_logged
alike_logged zero k t = agree_refuse passes_logged k k _
alike_logged (suc d) k t = over_loop (to_be_alike_logged k) (optimize_sexp_over logged d) (optimize_sexp_over logged d) (alike_logged d k) (suc pass_limit) t

alike_turn : (d k : ℕ) (t : Tree)
    → Agree passes_logged k k (pass_over logged 1 (optimizers_over logged (optimize_sexp_over logged d)) t) (pass_over logged 1 (optimizers_over logged (optimize_sexp_over logged d)) t)
unfolding to_be_alike_logged
alike_turn d k t = over_pass (to_be_alike_logged k) (optimize_sexp_over logged d) (optimize_sexp_over logged d) (alike_logged d k) 1 t

out_logged : (s : Logged) → pass_limit ≤ s.spent.passes → logged.in_run one_pass s ≡ stop PassesOut s
unfolding and_log
out_logged s h = ap (and_log s.log) (passes_out s.spent h)

module _ (d : ℕ) where
  -- the rules from number k on, in a pass over x
  rest : ℕ → Tree → M Logged Tree
  rest k x = pass_over logged k (drop (k - 1) (optimizers_over logged (optimize_sexp_over logged d))) x

  rest_alone : ℕ → Tree → W Tree
  rest_alone k x = pass_over alone k (drop (k - 1) (optimizers_over alone (optimize_sexp d))) x

  logs_rest : (k : ℕ) (x : Tree) → Logs (rest_alone k x) (rest k x)
  unfolding rest rest_alone
  logs_rest k x = over_rest to_log (optimize_sexp d) (optimize_sexp_over logged d) (logs_driver d) (k - 1) k x

  -- what a pass over x adds from rule number k on
  unfoldable pub pass_ends : ℕ → Tree → Spent → Log
  unfolding rest
  pass_ends k x s = log_from (rest k x) s

  -- ---- a rule of a pass

  eight : length (optimizers_over logged (optimize_sexp_over logged d)) ≡ 8
  unfolding optimizers_over
  eight = refl

  module _ (k : ℕ) (a : 0 < k) (b : k ≤ 8) (x : Tree) (s : Spent) where
    -- rule number k
    rule : M Logged Tree
    rule = get_or (optimizers_over logged (optimize_sexp_over logged d)) (k - 1) give x

    abbrev rule_alone : W Tree
    rule_alone = get_or (optimizers (optimize_sexp d)) (k - 1) give x

    logs_rule : Logs rule_alone rule
    unfolding rule optimizers
    logs_rule = over_rule to_log (optimize_sexp d) (optimize_sexp_over logged d) (logs_driver d) (k - 1) x

    -- what follows it
    then : Tree → M Logged Tree
    then t = elim (equal_to x t) [ true ↦ rest (k + 1) x | false ↦ ends_pass_over logged k t ]

    then_alone : Tree → W Tree
    then_alone t = elim (equal_to x t) [ true ↦ rest_alone (k + 1) x | false ↦ ends_pass_over alone k t ]

    logs_then : (t : Tree) → Logs (then_alone t) (then t)
    unfolding then then_alone ends_pass_over ◌>>◌
    logs_then t = go (equal_to x t)
      where
        go : (c : Bool) → Logs {A = Tree} (elim c as (λ z. W Tree) [ true ↦ rest_alone (k + 1) x | false ↦ ends_pass_over alone k t ]) (elim c as (λ z. M Logged Tree) [ true ↦ rest (k + 1) x | false ↦ ends_pass_over logged k t ])
        go true = logs_rest (k + 1) x
        go false = logs_bind (logs_note k t) (λ y. logs_give t)

    split : rest k x ≡ (rule >>= then)
    unfolding rest rule then pass_over
    split =
        let e : suc (k - 1) ≡ k + 1 - 1 = omega arith in
        let z : suc k ≡ k + 1 = omega arith in
        ap (λ fs. pass_over logged k fs x) (drop-cons (optimizers_over logged (optimize_sexp_over logged d)) (k - 1) give (omega (arith, eight)))
        ∙ (λ i. rule >>= λ t. elim (equal_to x t) [ true ↦ pass_over logged (z i) (drop (e i) (optimizers_over logged (optimize_sexp_over logged d))) x | false ↦ ends_pass_over logged k t ])

    whole : pass_ends k x s ≡ log_from (rule >>= then) s
    unfolding pass_ends log_from
    whole = ap (λ (m : M Logged Tree). log_of (m (record { spent = s; log = [] }))) split

    then_same : (y : Spent) → log_from (then x) y ≡ pass_ends (k + 1) x y
    unfolding then pass_ends
    then_same y = rw (equal_to_same x, then)

    pub same_ends : (y : Spent) → rule_alone s ≡ done x y → pass_ends k x s ≡ rule_ends d k x s ++ pass_ends (k + 1) x y
    unfolding rule_ends rule
    same_ends y e = whole ∙ log_goes_on logs_rule then s logs_then x y e ∙ ap (log_from rule s ++◌) (then_same y)

    then_is : (u : Tree) → equal_to x u ≡ false → then u ≡ ends_pass_over logged k u
    unfolding then
    then_is u c = rw (c, then)

    then_changed : (u : Tree) (y : Spent) → equal_to x u ≡ false → log_from (then u) y ≡ (k, u) ∷ []
    unfolding log_from log_of ends_pass_over ◌>>=◌ ◌>>◌ give
    then_changed u y c = ap (λ (m : M Logged Tree). log_of (m (record { spent = y; log = [] }))) (then_is u c)

    pub changed_ends : (u : Tree) (y : Spent) → rule_alone s ≡ done u y → equal_to x u ≡ false → pass_ends k x s ≡ rule_ends d k x s ++ (k, u) ∷ []
    unfolding rule_ends rule
    changed_ends u y e c = whole ∙ log_goes_on logs_rule then s logs_then u y e ∙ ap (log_from rule s ++◌) (then_changed u y c)

    pub stopped_ends : (n : Refusal) (y : Spent) → rule_alone s ≡ stop n y → pass_ends k x s ≡ rule_ends d k x s
    unfolding rule_ends rule
    stopped_ends n y e = whole ∙ log_stops logs_rule then s n y e

  -- after the last rule
  pub last_ends : (x : Tree) (s : Spent) → pass_ends 9 x s ≡ []
  unfolding pass_ends rest optimizers_over pass_over give log_from log_of
  last_ends x s = refl

  -- ---- a turn of the loop

  turn : Tree → M Logged Tree
  turn (atom b) = give (atom b)
  turn (pair l r) = logged.in_run one_pass >> rest 1 (pair l r)

  unfoldable pub turn_alone : Tree → W Tree
  unfolding rest_alone
  turn_alone (atom b) = give (atom b)
  turn_alone (pair l r) = one_pass >> rest_alone 1 (pair l r)

  logs_turn : (t : Tree) → Logs (turn_alone t) (turn t)
  unfolding turn turn_alone ◌>>◌
  logs_turn (atom b) = logs_give (atom b)
  logs_turn (pair l r) = logs_bind (logs_run one_pass) (λ y. logs_rest 1 (pair l r))

  -- what a turn adds
  unfoldable pub turn_ends : Tree → Spent → Log
  unfolding turn rest
  turn_ends t s = log_from (turn t) s

  pub turn_atom : (b : List ℕ) (s : Spent) → turn_ends (atom b) s ≡ []
  unfolding turn_ends turn
  turn_atom b s = silent_give (atom b) s

  pub turn_begins : (l r : Tree) (s x : Spent) → one_pass s ≡ done tt x → turn_ends (pair l r) s ≡ pass_ends 1 (pair l r) x
  unfolding turn_ends turn pass_ends ◌>>◌
  turn_begins l r s x p = silent_then (logs_run one_pass) _ (λ y. logs_rest 1 (pair l r)) (silent_run one_pass) s tt x p

  pub turn_out : (l r : Tree) (s x : Spent) (n : Refusal) → one_pass s ≡ stop n x → turn_ends (pair l r) s ≡ []
  unfolding turn_ends turn ◌>>◌
  turn_out l r s x n p = silent_stops (logs_run one_pass) _ (λ y. logs_rest 1 (pair l r)) (silent_run one_pass) s n x p

  -- ---- a call

  pub deep_ends : (t : Tree) (s : Spent) → ends 0 t s ≡ []
  unfolding ends
  deep_ends t s = refl

  pub atom_ends : (b : List ℕ) (s : Spent) → ends (suc d) (atom b) s ≡ []
  unfolding ends
  atom_ends b s = refl

  -- what follows a turn over x
  after : Tree → Tree → M Logged Tree
  after x w = elim (equal_to x w) [ true ↦ give x | false ↦ optimize_sexp_over logged (suc d) w ]

  after_alone : Tree → Tree → W Tree
  after_alone x w = elim (equal_to x w) [ true ↦ give x | false ↦ optimize_sexp (suc d) w ]

  logs_after : (x w : Tree) → Logs (after_alone x w) (after x w)
  unfolding after after_alone
  logs_after x w = go (equal_to x w)
    where
      go : (b : Bool) → Logs {A = Tree} (elim b as (λ z. W Tree) [ true ↦ give x | false ↦ optimize_sexp (suc d) w ]) (elim b as (λ z. M Logged Tree) [ true ↦ give x | false ↦ optimize_sexp_over logged (suc d) w ])
      go true = logs_give x
      go false = logs_driver (suc d) w

  next_logged : (l r : Tree) (z : Logged) → optimize_sexp_over logged (suc d) (pair l r) z
      ≡ (logged.in_run one_pass >> (pass_over logged 1 (optimizers_over logged (optimize_sexp_over logged d)) (pair l r) >>= λ w. elim (equal_to (pair l r) w) [ true ↦ give (pair l r) | false ↦ optimize_sexp_over logged (suc d) w ])) z
  unfolding optimize_sexp_over
  next_logged l r z = next_over logged passes_logged (λ k. run_agrees k (suc k) one_pass (one_pass_more k)) out_logged (optimize_sexp_over logged d) (alike_turn d) pass_limit (omega arith) l r z

  nothing_follows : (t : Tree) (z : Logged) → after t t z ≡ done t z
  unfolding after give
  nothing_follows t z = rw (equal_to_same t, after)

  -- a turn, and what follows it
  by_turn : (t : Tree) (z : Logged) → optimize_sexp_over logged (suc d) t z ≡ (turn t >>= after t) z
  unfolding turn rest after optimize_sexp_over ◌>>◌ ◌>>=◌ give
  by_turn (atom b) z = sym (nothing_follows (atom b) z)
  by_turn (pair l r) z = next_logged l r z ∙ sym (bind_assoc (logged.in_run one_pass) (λ y. rest 1 (pair l r)) (after (pair l r)) z)

  call_is : (t : Tree) (s : Spent) → ends (suc d) t s ≡ log_from (turn t >>= after t) s
  call_is t s = unfold ends log_from in (ap log_of (by_turn t (record { spent = s; log = [] })))

  after_same : (t : Tree) (y : Spent) → log_from (after t t) y ≡ []
  unfolding after
  after_same t y = rw (equal_to_same t, after) (silent_give t y)

  pub call_same : (t : Tree) (s y : Spent) → turn_alone t s ≡ done t y → ends (suc d) t s ≡ turn_ends t s
  unfolding turn_ends
  call_same t s y e = call_is t s ∙ log_goes_on (logs_turn t) (after t) s (logs_after t) t y e ∙ ap (log_from (turn t) s ++◌) (after_same t y) ∙ append-nil _

  after_changed : (t u : Tree) (y : Spent) → equal_to t u ≡ false → log_from (after t u) y ≡ ends (suc d) u y
  unfolding after ends
  after_changed t u y c = rw (c, after)

  pub call_changed : (t u : Tree) (s y : Spent) → turn_alone t s ≡ done u y → equal_to t u ≡ false → ends (suc d) t s ≡ turn_ends t s ++ ends (suc d) u y
  unfolding turn_ends
  call_changed t u s y e c = call_is t s ∙ log_goes_on (logs_turn t) (after t) s (logs_after t) u y e ∙ ap (log_from (turn t) s ++◌) (after_changed t u y c)

  pub call_stops : (t : Tree) (s y : Spent) (n : Refusal) → turn_alone t s ≡ stop n y → ends (suc d) t s ≡ turn_ends t s
  unfolding turn_ends
  call_stops t s y n e = call_is t s ∙ log_stops (logs_turn t) (after t) s n y e
