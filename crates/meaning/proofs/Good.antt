-- What is asked of a rule and of the driver, and that `children_optimizer` meets it. Assumes nothing.
use Prim.Native.Nat.{ℕ}
use mathlib.Core.Path.{◌≡◌, refl, subst}
use mathlib.Core.List.{List, [], ◌∷◌}
use mathlib.Core.Bool.{false}
use mathlib.Core.Option.{Option, none, some}
use Rattle.meaning.specs.Tree.{Tree, atom, enlist, proper_list, is_quote}
use Rattle.meaning.specs.Meter.{W}
use Rattle.meaning.specs.Rules.{each, same_trees, relist, children, children_optimizer}
use Rattle.meaning.proofs.TreeLaws.{proper_list_sound}
use Rattle.meaning.proofs.Pointwise.{Pointwise, no_more, one_more, pointwise_map}
use Rattle.meaning.proofs.Sure.{sure_give, sure_bind, sure_seq, sure_if, sure_map}
use Rattle.meaning.proofs.Quiet.{Quiet, quiet_charge}
use Rattle.meaning.proofs.Keeps.{Keeps, keeps_refl, keeps_at, list_keeps}

-- where a rule sets no mark, what it gives keeps the values of what it took
abbrev pub GoodRule : (Tree → W Tree) → Type 0
GoodRule f = (t : Tree) → Quiet (f t) (λ u. Keeps t u)

-- what the driver makes of t: its values are kept, and an atom stays
pub record Becomes (t u : Tree) : Type 0 where
  pub keeps : Keeps t u
  pub still : (b : List ℕ) → t ≡ atom b → u ≡ atom b

abbrev pub Good : (Tree → W Tree) → Type 0
Good again = (t : Tree) → Quiet (again t) (λ u. Becomes t u)

pub becomes_itself : (t : Tree) → Becomes t t
becomes_itself t = record { keeps = keeps_refl t; still = λ b e. e }

-- the list of what became of its elements keeps the values of a list that is no quote
pub becomes_list : (es us : List Tree) → is_quote (enlist es) ≡ false → Pointwise Becomes es us → Keeps (enlist es) (enlist us)
unfolding enlist
becomes_list es us nq no_more = keeps_refl _
becomes_list es us nq (one_more w ws) = list_keeps _ _ _ _ nq w.still (pointwise_map (λ t u w. w.keeps) ws)

module _ (again : Tree → W Tree) (good : Good again) where
  pub each_good : (es : List Tree) → Quiet (each again es) (λ us. Pointwise Becomes es us)
  unfolding each
  each_good [] = sure_give _ no_more
  each_good (e ∷ es) = sure_bind (good e) (λ u. sure_bind (each_good es) (λ us. sure_give _ (λ ws w. one_more w ws)))

  relist_good : (r : Tree) (es us : List Tree) → Quiet (relist r es us) (λ u. Keeps r (enlist us) → Keeps r u)
  unfolding relist
  relist_good r es us = sure_if (same_trees es us) (λ e. sure_give _ (λ k. keeps_refl r)) (λ e. sure_seq (quiet_charge _) (sure_give _ (λ x k. k)))

  -- 5. what became of the elements
  pub children_good : GoodRule (children_optimizer again)
  unfolding children_optimizer children
  children_good r = sure_if (is_quote r) (λ e. sure_give _ (keeps_refl r)) (λ nq. go nq (proper_list r) refl)
    where
      go : is_quote r ≡ false → (o : Option (List Tree)) → proper_list r ≡ o → Quiet (children again r o) (λ u. Keeps r u)
      go nq none q = sure_give _ (keeps_refl r)
      go nq (some []) q = sure_give _ (keeps_refl r)
      go nq (some (e ∷ es)) q =
          let i : r ≡ enlist (e ∷ es) = proper_list_sound r (e ∷ es) q in
          sure_bind (each_good (e ∷ es)) (λ us.
          sure_map (λ u f ws. f (keeps_at i refl (becomes_list (e ∷ es) us (subst (λ x. is_quote x ≡ false) i nq) ws))) (relist_good r (e ∷ es) us))
