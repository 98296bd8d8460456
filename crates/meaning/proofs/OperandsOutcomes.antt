-- The three outcomes of the walk, in rule 5, which makes another tree than the list that it walked, and in rule 4. Assumes nothing.
use Prim.Native.Nat.{ℕ, zero, suc}
use mathlib.Core.Path.{◌≡◌, refl, sym, ◌∙◌, ap}
use mathlib.Core.List.{List}
use mathlib.Core.Bool.{Bool, true, false, ◌||◌, not, or_assoc}
use mathlib.Core.Option.{Option, none, some}
use Rattle.refusals.specs.declared.Refusal.{Refusal}
use Rattle.refusals.specs.declared.Refusal.TheVariants.{TooDeep}
use Rattle.meaning.specs.Tree.{Tree, atom, pair, equal_to, is_quote}
use Rattle.meaning.specs.Limits.{pair_cost}
use Rattle.meaning.specs.Meter.{W, Spent, done, stop, ◌>>=◌, ◌>>◌, give, charge, mark_if}
use Rattle.meaning.specs.Constant.{seems_constant}
use Rattle.meaning.specs.Substitute.{or_else, is_proper}
use Rattle.meaning.specs.Rules.{settle, children_optimizer, settle_over, children_optimizer_over}
use Rattle.meaning.specs.Driver.{optimize_sexp}
use Rattle.meaning.proofs.Tests.{on_bool}
use Rattle.meaning.proofs.MeterLaws.{bind_inv, seq_inv, give_inv, bind_at}
use Rattle.meaning.proofs.BindLaws.{bind_stop}
use Rattle.meaning.proofs.Proper.{proper_yes, proper_no}
use Rattle.meaning.proofs.Operands.{before, work, counts, differs}
use Rattle.meaning.proofs.OperandsRules.{de_morgan, children_works, kept_or, settle_works}

module _ (again : Tree → W Tree) where
  -- a list is made only where the flag was set before it, or an element differs
  made_differs : (t m : Tree) (flag : Bool) (s x : Spent) → work differs true again flag t s ≡ done (some m) x → (flag || not (equal_to t m)) ≡ true
  unfolding work before equal_to
  made_differs (atom b) m true s x h = refl
  made_differs (atom b) m false s x h = cc
  made_differs (pair l r) m flag s x h =
      let (u, s₁, p, q) = bind_inv (again l) (λ u. work differs true again (flag || differs l u) r >>= before u) s x (some m) h in
      let (o, s₂, p₂, q₂) = bind_inv (work differs true again (flag || differs l u) r) (before u) s₁ x (some m) q in
      go u o s₂ q₂ (λ k e. made_differs r k (flag || differs l u) s₁ s₂ (p₂ ∙ ap (λ z. done z s₂) e))
    where
      go : (u : Tree) (o : Option Tree) (s₂ : Spent) → before u o s₂ ≡ done (some m) x → ((k : Tree) → o ≡ some k → ((flag || differs l u) || not (equal_to r k)) ≡ true)
          → (flag || not (equal_to (pair l r) m)) ≡ true
      go u none s₂ q ih = cc
      go u (some k) s₂ q ih =
          let (y, s₃, p₃, q₃) = seq_inv (charge pair_cost) (give (some (pair u k))) s₂ x (some m) q in
          let i : some (pair u k) ≡ some m = give_inv (some (pair u k)) (some m) s₃ x q₃ in
          let j : pair u k ≡ m = cc in
          rw (← j) (ap (flag ||◌) (de_morgan (equal_to l u) (equal_to r k)) ∙ sym (or_assoc flag (differs l u) (not (equal_to r k))) ∙ ih k refl)

  -- ---- rule 5

  -- a quote, and what is no proper list, stay
  pub children_of_quote : (r : Tree) → is_quote r ≡ true → (s : Spent) → children_optimizer again r s ≡ done r s
  unfolding children_optimizer
  children_of_quote r q s = rw (q, children_optimizer_over)

  pub children_of_improper : (r : Tree) → is_proper r ≡ false → (s : Spent) → children_optimizer again r s ≡ done r s
  unfolding children_optimizer
  children_of_improper r p s = on_bool (is_quote r) (λ q. rw (q, children_optimizer_over)) (λ q. rw (q, proper_no r p, children_optimizer_over))

  module _ (r : Tree) (q : is_quote r ≡ false) (p : is_proper r ≡ true) (s x : Spent) where
    or_same : Option Tree → W Tree
    or_same o = give (or_else o r)

    by_walk : children_optimizer again r s ≡ (work differs true again false r >>= or_same) s
    unfolding children_optimizer or_same
    by_walk = let (es, e) = proper_yes r p in rw (q, e, children_optimizer_over) (children_works again r es e s)

    pub children_change : (m : Tree) → work differs true again false r s ≡ done (some m) x → (children_optimizer again r s ≡ done m x) × (equal_to r m ≡ false)
    unfolding or_same or_else give
    children_change m h = (by_walk ∙ bind_at (work differs true again false r) or_same s x (some m) h, go (equal_to r m) (made_differs r m false s x h))
      where
        go : (b : Bool) → not b ≡ true → b ≡ false
        go true k = sym k
        go false k = refl

    pub children_same : work differs true again false r s ≡ done none x → children_optimizer again r s ≡ done r x
    unfolding or_same or_else give
    children_same h = by_walk ∙ bind_at (work differs true again false r) or_same s x none h

    pub children_stop : (n : Refusal) → work differs true again false r s ≡ stop n x → children_optimizer again r s ≡ stop n x
    unfolding or_same
    children_stop n h = by_walk ∙ bind_stop (work differs true again false r) or_same s x n h

  -- ---- rule 4

  module _ (r new : Tree) (low : Bool) where
    -- a changed body that seems constant is worked
    pub settle_constant : seems_constant new ≡ true → (s : Spent) → settle again r new low s ≡ (again new >>= λ t. mark_if low >> give t) s
    unfolding settle
    settle_constant c s = rw (c, settle_over)

    module _ (c : seems_constant new ≡ false) where
      -- one that is no proper list is dropped
      pub settle_improper : is_proper new ≡ false → (s : Spent) → settle again r new low s ≡ done r s
      unfolding settle
      settle_improper p s = rw (c, proper_no new p, settle_over)

      module _ (p : is_proper new ≡ true) (s x : Spent) where
        walked : settle again r new low s ≡ (work counts false again false new >>= kept_or r low) s
        walked = let (es, e) = proper_yes new p in settle_works again r new low es c e s

        pub settle_make : (m : Tree) → work counts false again false new s ≡ done (some m) x → settle again r new low s ≡ (mark_if low >> give m) x
        unfolding kept_or
        settle_make m h = walked ∙ bind_at (work counts false again false new) (kept_or r low) s x (some m) h

        pub settle_drop : work counts false again false new s ≡ done none x → settle again r new low s ≡ done r x
        unfolding kept_or
        settle_drop h = walked ∙ bind_at (work counts false again false new) (kept_or r low) s x none h

        pub settle_stop : (n : Refusal) → work counts false again false new s ≡ stop n x → settle again r new low s ≡ stop n x
        settle_stop n h = walked ∙ bind_stop (work counts false again false new) (kept_or r low) s x n h

-- ---- one element

-- an atom is settled in place
pub works_atom : (d : ℕ) (b : List ℕ) (s : Spent) → optimize_sexp (suc d) (atom b) s ≡ done (atom b) s
unfolding optimize_sexp
works_atom d b s = refl

pub too_deep : (t : Tree) (s : Spent) → optimize_sexp zero t s ≡ stop TooDeep s
unfolding optimize_sexp
too_deep t s = refl
