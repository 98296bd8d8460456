-- `var_change_optimizer_cons_eval` keeps values where it sets no mark. Assumes nothing.
use mathlib.Core.Path.{◌≡◌, refl, subst}
use mathlib.Core.Bool.{Bool, false}
use Rattle.meaning.specs.Tree.{Tree, atom, pair, enlist, proper_list, is_byte, is_quote}
use Rattle.meaning.specs.Meter.{W, ◌>>◌, give, charge}
use Rattle.meaning.specs.Constant.{seems_constant}
use Rattle.meaning.specs.Substitute.{sub_args, sub_cost, reads_low}
use Rattle.meaning.specs.Rules.{none_of, non_constant, settle, Applied, applied, not_applied, applied_of, var_change_optimizer_cons_eval}
use Rattle.meaning.proofs.Tests.{on_bool, not_true}
use Rattle.meaning.proofs.TreeLaws.{proper_list_sound}
use Rattle.meaning.proofs.Shapes.{apply_of, applied_shape}
use Rattle.meaning.proofs.CallLaws.{apply_inv}
use Rattle.meaning.proofs.Sure.{sure_give, sure_bind, sure_seq, sure_if, sure_option, sure_map}
use Rattle.meaning.proofs.Quiet.{Quiet, quiet_charge, quiet_mark}
use Rattle.meaning.proofs.Keeps.{Keeps, keeps_refl, keeps_trans, keeps_at}
use Rattle.meaning.proofs.Good.{Good, GoodRule, becomes_list, each_good}
use Rattle.meaning.proofs.SubstituteKeeps.{sub_gives}

-- the changed body keeps the values of (a (q . S) ARGS)
changed_keeps : (s a : Tree) → reads_low s ≡ false → Keeps (apply_of s a) (sub_args s a)
unfolding Keeps
changed_keeps s a h env v g = let (e, ga, gs) = apply_inv s a env v g in sub_gives s a env e v ga gs h

-- what does not seem constant is no quote
not_quote : (t : Tree) → seems_constant t ≡ false → is_quote t ≡ false
unfolding is_quote seems_constant
not_quote (atom b) h = refl
not_quote (pair (atom o) r) h = on_bool (is_byte 1 o) (λ e. not_true (rw (e, seems_constant) at h)) (λ e. e)
not_quote (pair (pair a b) r) h = refl

module _ (again : Tree → W Tree) (good : Good again) where
  -- the body that is kept keeps r's values, if the changed body does
  settle_good : (r new : Tree) (low : Bool) → (low ≡ false → Keeps r new) → Quiet (settle again r new low) (λ u. Keeps r u)
  unfolding settle
  settle_good r new low k =
      sure_if (seems_constant new)
      (λ e. sure_bind (good new) (λ t. sure_seq (quiet_mark low) (sure_give _ (λ l w. keeps_trans r new t (k l) w.keeps))))
      (λ e. sure_option (proper_list new) (λ q. sure_give _ (keeps_refl r)) (λ es q.
      let i : new ≡ enlist es = proper_list_sound new es q in
      let nq : is_quote (enlist es) ≡ false = subst (λ x. is_quote x ≡ false) i (not_quote new e) in
      sure_bind (each_good again good es) (λ us. sure_if (none_of non_constant us)
      (λ f. sure_seq (quiet_charge _) (sure_seq (quiet_mark low) (sure_give _ (λ l x ws.
      keeps_trans r new (enlist us) (k l) (keeps_at i refl (becomes_list es us nq ws))))))
      (λ f. sure_give _ (λ ws. keeps_refl r)))))

  -- 4. where the substitution sets no mark, no atom of the body was low
  pub change_good : GoodRule (var_change_optimizer_cons_eval again)
  unfolding var_change_optimizer_cons_eval
  change_good r = go (applied_of r) refl
    where
      go : (x : Applied) → applied_of r ≡ x
          → Quiet (elim x as (λ z. W Tree) [ applied s a ↦ charge (sub_cost s a) >> settle again r (sub_args s a) (reads_low s) | not_applied ↦ give r ]) (λ u. Keeps r u)
      go (applied s a) e =
          sure_seq (quiet_charge _)
          (sure_map (λ u k x. k) (settle_good r (sub_args s a) (reads_low s) (λ l. keeps_at (applied_shape r s a e) refl (changed_keeps s a l))))
      go not_applied e = sure_give _ (keeps_refl r)
