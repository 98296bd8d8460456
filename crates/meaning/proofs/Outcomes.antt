-- A rule's three outcomes (the same, another tree, stopped) carry a pass on, and a pass's a call. Assumes nothing.
use Prim.Native.Nat.{ℕ, suc}
use mathlib.Core.Path.{◌≡◌, refl, ◌∙◌}
use mathlib.Core.List.{List, [], ◌∷◌}
use mathlib.Core.Bool.{true, false}
use Rattle.refusals.specs.declared.Refusal.{Refusal}
use Rattle.meaning.specs.Tree.{Tree, pair, equal_to}
use Rattle.meaning.specs.Limits.{pass_limit}
use Rattle.meaning.specs.Meter.{W, Spent, done, stop, ◌>>=◌, give, one_pass}
use Rattle.meaning.specs.Driver.{ends_pass, pass, optimize_sexp}
use Rattle.meaning.proofs.SameLaws.{equal_to_same}
use Rattle.meaning.proofs.MeterLaws.{bind_at, seq_at, seq_stop}
use Rattle.meaning.proofs.BindLaws.{bind_stop}
use Rattle.meaning.proofs.Turn.{turn, rests}
use Rattle.meaning.proofs.LoopFuel.{next_call}

-- ---- a rule in a pass

module _ (n : ℕ) (f : Tree → W Tree) (fs : List (Tree → W Tree)) (r : Tree) (s x : Spent) where
  -- what follows the rule
  abbrev after_rule : Tree → W Tree
  after_rule t = elim (equal_to r t) [ true ↦ pass (suc n) fs r | false ↦ ends_pass n t ]

  pub rule_same : f r s ≡ done r x → pass n (f ∷ fs) r s ≡ pass (suc n) fs r x
  unfolding pass
  rule_same h = bind_at (f r) after_rule s x r h ∙ rw (equal_to_same r, after_rule)

  pub rule_changes : (t : Tree) → f r s ≡ done t x → equal_to r t ≡ false → pass n (f ∷ fs) r s ≡ ends_pass n t x
  unfolding pass
  rule_changes t h e = bind_at (f r) after_rule s x t h ∙ rw (e, after_rule)

  pub rule_stops : (m : Refusal) → f r s ≡ stop m x → pass n (f ∷ fs) r s ≡ stop m x
  unfolding pass
  rule_stops m h = bind_stop (f r) after_rule s x m h

-- after the last rule
pub no_rule : (n : ℕ) (r : Tree) (s : Spent) → pass n [] r s ≡ done r s
unfolding pass
no_rule n r s = refl

-- ---- a pass in a call

module _ (d : ℕ) (l r : Tree) (s : Spent) where
  -- what follows the pass
  abbrev after_pass : Tree → W Tree
  after_pass w = elim (equal_to (pair l r) w) [ true ↦ give (pair l r) | false ↦ optimize_sexp (suc d) w ]

  pub no_pass : (x : Spent) (m : Refusal) → one_pass s ≡ stop m x → optimize_sexp (suc d) (pair l r) s ≡ stop m x
  no_pass x m h = next_call d l r s ∙ seq_stop one_pass (turn (optimize_sexp d) (pair l r) >>= after_pass) s x m h

  module _ (s₁ : Spent) (p : one_pass s ≡ done tt s₁) where
    pub pass_stops : (x : Spent) (m : Refusal) → turn (optimize_sexp d) (pair l r) s₁ ≡ stop m x → optimize_sexp (suc d) (pair l r) s ≡ stop m x
    pass_stops x m h =
        next_call d l r s
        ∙ seq_at one_pass (turn (optimize_sexp d) (pair l r) >>= after_pass) s s₁ tt p
        ∙ bind_stop (turn (optimize_sexp d) (pair l r)) after_pass s₁ x m h

    pub pass_same : (x : Spent) → turn (optimize_sexp d) (pair l r) s₁ ≡ done (pair l r) x → optimize_sexp (suc d) (pair l r) s ≡ done (pair l r) x
    unfolding optimize_sexp
    pass_same x h = rests (optimize_sexp d) pass_limit l r s s₁ x p h

    pub pass_changes : (w : Tree) (s₂ : Spent) → turn (optimize_sexp d) (pair l r) s₁ ≡ done w s₂ → equal_to (pair l r) w ≡ false
        → optimize_sexp (suc d) (pair l r) s ≡ optimize_sexp (suc d) w s₂
    pass_changes w s₂ h e =
        next_call d l r s
        ∙ seq_at one_pass (turn (optimize_sexp d) (pair l r) >>= after_pass) s s₁ tt p
        ∙ bind_at (turn (optimize_sexp d) (pair l r)) after_pass s₁ s₂ w h
        ∙ rw (e, after_pass)
