-- What seems constant has one value in every environment, and so `constant_optimizer` keeps values. Assumes nothing.
use Prim.Native.Nat.{ℕ}
use mathlib.Core.Path.{◌≡◌, sym, subst}
use mathlib.Core.List.{List, [], ◌∷◌}
use mathlib.Core.Bool.{true, false, ◌&&◌, not}
use Rattle.meaning.specs.Tree.{Tree, atom, pair, nil, is_byte, is_empty, is_quote, non_nil, quote}
use Rattle.meaning.specs.Evaluate.{Gives, evaluate}
use Rattle.meaning.specs.Constant.{seems_constant, seems_constant_tail}
use Rattle.meaning.specs.Rules.{constant_optimizer}
use Rattle.meaning.proofs.Tests.{on_bool, not_false, and_inv}
use Rattle.meaning.proofs.TreeLaws.{is_empty_sound}
use Rattle.meaning.proofs.GivesLaws.{ListGives, Valued, gives_inv, gives_same}
use Rattle.meaning.proofs.BoundedEval.{evaluated}
use Rattle.meaning.proofs.CallLaws.{nil_gives, nil_inv, quote_gives, quote_anywhere, call_moves}
use Rattle.meaning.proofs.Sure.{sure_give, sure_bind, sure_seq, sure_if}
use Rattle.meaning.proofs.Quiet.{quiet_charge, quiet_within}
use Rattle.meaning.proofs.Keeps.{Keeps, keeps_refl}
use Rattle.meaning.proofs.Good.{GoodRule}

nil_anywhere : (b : List ℕ) (env env' v : Tree) → is_empty b ≡ true → Gives (atom b) env v → Gives (atom b) env' v
nil_anywhere b env env' v h =
    subst (λ x. Gives (atom x) env v → Gives (atom x) env' v) (sym (is_empty_sound b h))
    (λ g. subst (Gives nil env') (nil_inv env v g) (nil_gives env'))

-- the arguments of a call that seems constant do too
tail_seems : (o : List ℕ) (r : Tree) → is_byte 1 o ≡ false → seems_constant (pair (atom o) r) ≡ true → seems_constant_tail r ≡ true
unfolding seems_constant
tail_seems o r e h =
    on_bool (is_byte 8 o)
    (λ f. not_false (rw (f, seems_constant) at (rw (e, seems_constant) at h)))
    (λ f. rw (f, seems_constant) at (rw (e, seems_constant) at h))

mutual
  unfolding seems_constant Valued ListGives

  -- the value of what seems constant is its value in every environment
  pub constant_gives : (e env env' v : Tree) → seems_constant e ≡ true → Gives e env v → Gives e env' v
  constant_gives (atom b) env env' v h g = nil_anywhere b env env' v h g
  constant_gives (pair (atom o) r) env env' v h g =
      on_bool (is_byte 1 o)
      (λ e. quote_anywhere o r env env' v e g)
      (λ e. call_moves o r r env env' v e (λ vs k. constant_list r env env' vs (tail_seems o r e h) k) g)
  constant_gives (pair (pair a b) r) env env' v h g = absurd (gives_inv (pair (pair a b) r) env v g)

  constant_list : (r env env' : Tree) (vs : List Tree) → seems_constant_tail r ≡ true → ListGives r env vs → ListGives r env' vs
  constant_list (atom []) env env' [] h g = tt
  constant_list (atom []) env env' (v ∷ vs) h g = absurd g
  constant_list (atom (b ∷ bs)) env env' vs h g = not_false h
  constant_list (pair l r) env env' [] h g = absurd g
  constant_list (pair l r) env env' (v ∷ vs) h g =
      let (p, q) = and_inv (seems_constant l) (seems_constant_tail r) h in
      (constant_gives l env env' v p g.0, constant_list r env env' vs q g.1)

constant_value : (r w : Tree) → seems_constant r ≡ true → Gives r nil w → Keeps r (quote w)
unfolding Keeps
constant_value r w h g env v k = subst (Gives (quote w) env) (gives_same r nil w v g (constant_gives r env nil v h k)) (quote_gives w env)

-- 2. the quote of its value under nil keeps the values of what seems constant
pub constant_good : GoodRule constant_optimizer
unfolding constant_optimizer
constant_good r =
    sure_if (not (is_quote r) && seems_constant r && non_nil r)
    (λ e.
    let (p, q) = and_inv (not (is_quote r) && seems_constant r) (non_nil r) e in
    let seems : seems_constant r ≡ true = (and_inv (not (is_quote r)) (seems_constant r) p).1 in
    sure_bind (quiet_within (evaluate r nil)) (λ w. sure_seq (quiet_charge _) (sure_give _ (λ x k.
    constant_value r w seems (evaluated r nil w k.0 k.1 k.2)))))
    (λ e. sure_give _ (keeps_refl r))
