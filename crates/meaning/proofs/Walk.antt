-- What holds of two pieces of work, and is kept by the ways in which the driver puts work together, holds of the rules and the driver. Assumes nothing.
use Prim.Native.Nat.{ℕ, zero, suc, ◌*◌}
use mathlib.Core.Path.{◌≡◌, refl}
use mathlib.Core.List.{List, [], ◌∷◌}
use mathlib.Core.Bool.{Bool, true, false, ◌&&◌, not}
use mathlib.Core.Option.{Option, none, some}
use lib.Dec.{leb}
use lib.ListN.{length, get_or, drop}
use Rattle.refusals.specs.declared.Refusal.{Refusal}
use Rattle.refusals.specs.declared.Refusal.TheVariants.{PathLong, PassesOut}
use Rattle.refusals.specs.Numbers.{number_of, leaves_room}
use Rattle.meaning.specs.Tree.{Tree, atom, pair, nil, enlist, equal_to, proper_list, non_nil, is_quote, quote}
use Rattle.meaning.specs.Number.{node_path_index, compose_paths, bytes_of}
use Rattle.meaning.specs.Limits.{path_limit, pair_cost}
use Rattle.meaning.specs.Meter.{M, W, Over, alone, ◌>>=◌, ◌>>◌, give, refuse, charge, one_pass, mark_if, within}
use Rattle.meaning.specs.Evaluate.{evaluate}
use Rattle.meaning.specs.Match.{Match, matched, no_match, too_many_names, match_sexp, got}
use Rattle.meaning.specs.Constant.{seems_constant}
use Rattle.meaning.specs.Substitute.{sub_args, sub_cost, reads_low}
use Rattle.meaning.specs.Rules.{constant_optimizer, Applied, applied, not_applied, applied_of, each, non_constant, none_of, settle_over, var_change_optimizer_cons_eval_over, var_change_optimizer_cons_eval, same_trees, relist, children_over, children_optimizer_over, children_optimizer, atom_name, atom_pattern, path_to, misread, longer, path_optimizer}
use Rattle.meaning.specs.Driver.{optimizers_over, optimizers, ends_pass_over, pass_over, pass, loop_over, loop}

-- a refusal of 01's table that comes after the room was touched
abbrev pub OfWork : Refusal → Type 0
OfWork n = (not (leaves_room n) && leb (number_of n) 14) ≡ true

-- a relation of work, and that each way of putting work together keeps it
pub record Kept : Type 1 where
  pub rel : {A : Type 0} → W A → W A → Type 0
  pub by_give : {A : Type 0} (a : A) → rel (give a) (give a)
  -- (all of the driver's refusals are such ones)
  pub by_refuse : {A : Type 0} (n : Refusal) → OfWork n → rel (refuse {A = A} n) (refuse n)
  pub by_bind : {A B : Type 0} {m n : W A} {f g : A → W B} → rel m n → ((a : A) → rel (f a) (g a)) → rel (m >>= f) (n >>= g)
  pub by_charge : (c : ℕ) → rel (charge c) (charge c)
  pub by_pass : rel one_pass one_pass
  pub by_mark : (b : Bool) → rel (mark_if b) (mark_if b)
  pub by_evaluate : (e env : Tree) → rel (within (evaluate e env)) (within (evaluate e env))

module _ (K : Kept) where
  by_seq : {A B : Type 0} {m n : W A} {k l : W B} → K.rel m n → K.rel k l → K.rel (m >> k) (n >> l)
  unfolding ◌>>◌
  by_seq mn kl = K.by_bind mn (λ x. kl)

  by_if : {A : Type 0} (b : Bool) {k l m n : W A} → K.rel k m → K.rel l n
      → K.rel {A = A} (elim b as (λ x. W A) [ true ↦ k | false ↦ l ]) (elim b as (λ x. W A) [ true ↦ m | false ↦ n ])
  by_if true p q = p
  by_if false p q = q

  -- ---- the rules that do not call the driver

  pub walk_constant : (r : Tree) → K.rel (constant_optimizer r) (constant_optimizer r)
  unfolding constant_optimizer
  walk_constant r =
      by_if (not (is_quote r) && seems_constant r && non_nil r)
      (K.by_bind (K.by_evaluate r nil) (λ v. by_seq (K.by_charge _) (K.by_give (quote v))))
      (K.by_give r)

  walk_path_to : (bs : List ℕ) (off : Bool) → K.rel (path_to bs off) (path_to bs off)
  unfolding path_to
  walk_path_to bs off = by_if (leb (length bs) path_limit) (by_seq (K.by_mark off) (by_seq (K.by_charge _) (K.by_give (atom bs)))) (K.by_refuse PathLong refl)

  walk_longer : (r : Tree) (o : Option Tree) (q : ℕ) → K.rel (longer r o q) (longer r o q)
  unfolding longer
  walk_longer r none q = K.by_give r
  walk_longer r (some (atom b)) q = walk_path_to (bytes_of (compose_paths (node_path_index b) q)) (misread b)
  walk_longer r (some (pair x y)) q = K.by_give r

  pub walk_path : (r : Tree) → K.rel (path_optimizer r) (path_optimizer r)
  unfolding path_optimizer
  walk_path r = go (match_sexp (atom_pattern 5) r [])
    where
      second : Option Tree
      second = got atom_name (match_sexp (atom_pattern 6) r [])

      to : Match → W Tree
      to m = elim m [ matched ks ↦ longer r (got atom_name (matched ks)) 2 | no_match ds ↦ longer r second 3 | too_many_names ↦ longer r second 3 ]

      go : (m : Match) → K.rel (to m) (to m)
      go (matched ks) = walk_longer r (got atom_name (matched ks)) 2
      go (no_match ds) = walk_longer r second 3
      go too_many_names = walk_longer r second 3

  pub walk_relist : (r : Tree) (es us : List Tree) → K.rel (relist r es us) (relist r es us)
  unfolding relist
  walk_relist r es us = by_if (same_trees es us) (K.by_give r) (by_seq (K.by_charge _) (K.by_give (enlist us)))

-- ---- the same of work over one state and over another

pub record KeptOver (P Q : Over) : Type 1 where
  pub rel : {A : Type 0} → M P.S A → M Q.S A → Type 0
  pub by_give : {A : Type 0} (a : A) → rel (give a) (give a)
  pub by_refuse : {A : Type 0} (n : Refusal) → OfWork n → rel (refuse {A = A} n) (refuse n)
  pub by_bind : {A B : Type 0} {m : M P.S A} {n : M Q.S A} {f : A → M P.S B} {g : A → M Q.S B} → rel m n → ((a : A) → rel (f a) (g a)) → rel (m >>= f) (n >>= g)
  pub by_charge : (c : ℕ) → rel (P.in_run (charge c)) (Q.in_run (charge c))
  pub by_pass : rel (P.in_run one_pass) (Q.in_run one_pass)
  pub by_mark : (b : Bool) → rel (P.in_run (mark_if b)) (Q.in_run (mark_if b))
  pub by_constant : (r : Tree) → rel (P.in_run (constant_optimizer r)) (Q.in_run (constant_optimizer r))
  pub by_path : (r : Tree) → rel (P.in_run (path_optimizer r)) (Q.in_run (path_optimizer r))
  pub by_relist : (r : Tree) (es us : List Tree) → rel (P.in_run (relist r es us)) (Q.in_run (relist r es us))
  pub by_note : (n : ℕ) (t : Tree) → rel (P.note n t) (Q.note n t)

module _ {P Q : Over} (K : KeptOver P Q) where
  over_seq : {A B : Type 0} {m : M P.S A} {n : M Q.S A} {k : M P.S B} {l : M Q.S B} → K.rel m n → K.rel k l → K.rel (m >> k) (n >> l)
  unfolding ◌>>◌
  over_seq mn kl = K.by_bind mn (λ x. kl)

  over_if : {A : Type 0} (b : Bool) {k l : M P.S A} {m n : M Q.S A} → K.rel k m → K.rel l n
      → K.rel {A = A} (elim b as (λ x. M P.S A) [ true ↦ k | false ↦ l ]) (elim b as (λ x. M Q.S A) [ true ↦ m | false ↦ n ])
  over_if true p q = p
  over_if false p q = q

  -- ---- a pass over rules one by one

  data AllKept : List (Tree → M P.S Tree) → List (Tree → M Q.S Tree) → Type 0 where
    no_rules : AllKept [] []
    and_rule : {h : Tree → M P.S Tree} {k : Tree → M Q.S Tree} {hs : List (Tree → M P.S Tree)} {ks : List (Tree → M Q.S Tree)} → ((t : Tree) → K.rel (h t) (k t)) → AllKept hs ks → AllKept (h ∷ hs) (k ∷ ks)

  walk_rules : {hs : List (Tree → M P.S Tree)} {ks : List (Tree → M Q.S Tree)} → AllKept hs ks → (n : ℕ) (r : Tree) → K.rel (pass_over P n hs r) (pass_over Q n ks r)
  unfolding pass_over ends_pass_over
  walk_rules no_rules n r = K.by_give r
  walk_rules (and_rule h hs) n r = K.by_bind (h r) (λ t. over_if (equal_to r t) (walk_rules hs (suc n) r) (over_seq (K.by_note n t) (K.by_give t)))

  drop_kept : {hs : List (Tree → M P.S Tree)} {ks : List (Tree → M Q.S Tree)} → AllKept hs ks → (j : ℕ) → AllKept (drop j hs) (drop j ks)
  drop_kept a zero = a
  drop_kept no_rules (suc j) = no_rules
  drop_kept (and_rule {h = h'} {k = k} {hs = hs'} {ks = ks} h hs) (suc j) = drop_kept {hs = hs'} hs j

  at_kept : {hs : List (Tree → M P.S Tree)} {ks : List (Tree → M Q.S Tree)} → AllKept hs ks → (j : ℕ) (r : Tree) → K.rel (get_or hs j give r) (get_or ks j give r)
  at_kept no_rules j r = K.by_give r
  at_kept (and_rule h hs) zero r = h r
  at_kept (and_rule h hs) (suc j) r = at_kept hs j r

  -- ---- the rules that call the driver

  module _ (f : Tree → M P.S Tree) (g : Tree → M Q.S Tree) (again : (t : Tree) → K.rel (f t) (g t)) where
    pub over_each : (es : List Tree) → K.rel (each f es) (each g es)
    unfolding each
    over_each [] = K.by_give []
    over_each (e ∷ es) = K.by_bind (again e) (λ u. K.by_bind (over_each es) (λ us. K.by_give (u ∷ us)))

    pub over_settle : (r new : Tree) (low : Bool) → K.rel (settle_over P f r new low) (settle_over Q g r new low)
    unfolding settle_over
    over_settle r new low =
        over_if (seems_constant new) (K.by_bind (again new) (λ t. over_seq (K.by_mark low) (K.by_give t))) (go (proper_list new))
      where
        end : (R : Over) → List Tree → M R.S Tree
        end R us = elim (none_of non_constant us) [ true ↦ R.in_run (charge (pair_cost * length us)) >> (R.in_run (mark_if low) >> give (enlist us)) | false ↦ give r ]

        ends : (us : List Tree) → K.rel (end P us) (end Q us)
        ends us = over_if (none_of non_constant us) (over_seq (K.by_charge _) (over_seq (K.by_mark low) (K.by_give (enlist us)))) (K.by_give r)

        go : (o : Option (List Tree)) → K.rel {A = Tree} (elim o as (λ z. M P.S Tree) [ none ↦ give r | some es ↦ each f es >>= end P ])
            (elim o as (λ z. M Q.S Tree) [ none ↦ give r | some es ↦ each g es >>= end Q ])
        go none = K.by_give r
        go (some es) = K.by_bind (over_each es) ends

    pub over_change : (r : Tree) → K.rel (var_change_optimizer_cons_eval_over P f r) (var_change_optimizer_cons_eval_over Q g r)
    unfolding var_change_optimizer_cons_eval_over
    over_change r = go (applied_of r)
      where
        to : (R : Over) → (Tree → M R.S Tree) → Applied → M R.S Tree
        to R h x = elim x [ applied s a ↦ R.in_run (charge (sub_cost s a)) >> settle_over R h r (sub_args s a) (reads_low s) | not_applied ↦ give r ]

        go : (x : Applied) → K.rel (to P f x) (to Q g x)
        go (applied s a) = over_seq (K.by_charge _) (over_settle r (sub_args s a) (reads_low s))
        go not_applied = K.by_give r

    over_children : (r : Tree) (o : Option (List Tree)) → K.rel (children_over P f r o) (children_over Q g r o)
    unfolding children_over
    over_children r none = K.by_give r
    over_children r (some []) = K.by_give r
    over_children r (some (e ∷ es)) = K.by_bind (over_each (e ∷ es)) (K.by_relist r (e ∷ es))

    pub over_children_optimizer : (r : Tree) → K.rel (children_optimizer_over P f r) (children_optimizer_over Q g r)
    unfolding children_optimizer_over
    over_children_optimizer r = over_if (is_quote r) (K.by_give r) (over_children r (proper_list r))

    -- ---- a pass and the loop

    walk_optimizers : AllKept (optimizers_over P f) (optimizers_over Q g)
    unfolding optimizers_over
    walk_optimizers =
        and_rule (λ r. K.by_give _)
        (and_rule K.by_constant
        (and_rule (λ r. K.by_give _)
        (and_rule over_change
        (and_rule over_children_optimizer
        (and_rule K.by_path
        (and_rule (λ r. K.by_give _)
        (and_rule (λ r. K.by_give _)
        no_rules)))))))

    pub over_pass : (n : ℕ) (r : Tree) → K.rel (pass_over P n (optimizers_over P f) r) (pass_over Q n (optimizers_over Q g) r)
    over_pass n r = walk_rules walk_optimizers n r

    -- the rules from one on, and one alone
    pub over_rest : (j n : ℕ) (r : Tree) → K.rel (pass_over P n (drop j (optimizers_over P f)) r) (pass_over Q n (drop j (optimizers_over Q g)) r)
    over_rest j n r = walk_rules (drop_kept walk_optimizers j) n r

    pub over_rule : (j : ℕ) (r : Tree) → K.rel (get_or (optimizers_over P f) j give r) (get_or (optimizers_over Q g) j give r)
    over_rule j r = at_kept walk_optimizers j r

    pub over_loop : (n : ℕ) (t : Tree) → K.rel (loop_over P f n t) (loop_over Q g n t)
    unfolding loop_over
    over_loop zero t = K.by_refuse PassesOut refl
    over_loop (suc n) (atom b) = K.by_give (atom b)
    over_loop (suc n) (pair l r) =
        over_seq K.by_pass (K.by_bind (over_pass 1 (pair l r)) (λ t. over_if (equal_to (pair l r) t) (K.by_give (pair l r)) (over_loop n t)))

-- ---- a run alone

module _ (K : Kept) where
  kept_alone : KeptOver alone alone
  kept_alone = record {
    rel = K.rel;
    by_give = K.by_give;
    by_refuse = K.by_refuse;
    by_bind = K.by_bind;
    by_charge = K.by_charge;
    by_pass = K.by_pass;
    by_mark = K.by_mark;
    by_constant = walk_constant K;
    by_path = walk_path K;
    by_relist = walk_relist K;
    by_note = λ n t. K.by_give tt;
  }

  module _ (f g : Tree → W Tree) (again : (t : Tree) → K.rel (f t) (g t)) where
    pub walk_change : (r : Tree) → K.rel (var_change_optimizer_cons_eval f r) (var_change_optimizer_cons_eval g r)
    unfolding var_change_optimizer_cons_eval kept_alone
    walk_change = over_change kept_alone f g again

    pub walk_children_optimizer : (r : Tree) → K.rel (children_optimizer f r) (children_optimizer g r)
    unfolding children_optimizer kept_alone
    walk_children_optimizer = over_children_optimizer kept_alone f g again

    pub walk_pass : (n : ℕ) (r : Tree) → K.rel (pass n (optimizers f) r) (pass n (optimizers g) r)
    unfolding pass optimizers kept_alone
    walk_pass = over_pass kept_alone f g again

    pub walk_loop : (n : ℕ) (t : Tree) → K.rel (loop f n t) (loop g n t)
    unfolding loop kept_alone
    walk_loop = over_loop kept_alone f g again
