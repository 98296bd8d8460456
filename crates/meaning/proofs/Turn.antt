-- A turn of the driver's loop that was done, taken apart. Assumes nothing.
use Prim.Native.Nat.{ℕ, suc}
use mathlib.Core.Path.{◌≡◌, sym, ◌∙◌, ap₂}
use mathlib.Core.Bool.{true, false}
use Rattle.meaning.specs.Tree.{Tree, pair, equal_to}
use Rattle.meaning.specs.Meter.{W, Spent, done, ◌>>=◌, give, one_pass}
use Rattle.meaning.specs.Driver.{optimizers, pass, loop}
use Rattle.meaning.proofs.Tests.{on_bool}
use Rattle.meaning.proofs.TreeLaws.{equal_to_sound}
use Rattle.meaning.proofs.SameLaws.{equal_to_same}
use Rattle.meaning.proofs.MeterLaws.{bind_inv, seq_inv, bind_at, seq_at}

-- the pass of a turn
abbrev pub turn : (Tree → W Tree) → Tree → W Tree
turn again t = pass 1 (optimizers again) t

module _ (again : Tree → W Tree) (n : ℕ) (l r : Tree) where
  -- the turn's pass changed nothing, and the pair was given back; or it was changed by a rule, and work went on
  pub data Turned (u : Tree) (s x : Spent) : Type 0 where
    rested : (s₁ : Spent) → one_pass s ≡ done tt s₁ → turn again (pair l r) s₁ ≡ done (pair l r) x → pair l r ≡ u → Turned u s x
    went_on : (w : Tree) (s₁ s₂ : Spent) → one_pass s ≡ done tt s₁ → turn again (pair l r) s₁ ≡ done w s₂ → equal_to (pair l r) w ≡ false
        → loop again n w s₂ ≡ done u x → Turned u s x

  -- what follows the pass
  abbrev after : Tree → W Tree
  after w = elim (equal_to (pair l r) w) [ true ↦ give (pair l r) | false ↦ loop again n w ]

  given : (w u : Tree) (s x : Spent) → give w s ≡ done u x → (w ≡ u) × (s ≡ x)
  unfolding give
  given w u s x h = (cc, cc)

  pub turned : (u : Tree) (s x : Spent) → loop again (suc n) (pair l r) s ≡ done u x → Turned u s x
  unfolding loop
  turned u s x h =
      let (y, s₁, p₁, q₁) = seq_inv one_pass (turn again (pair l r) >>= after) s x u h in
      let (w, s₂, p₂, q₂) = bind_inv (turn again (pair l r)) after s₁ x u q₁ in
      on_bool (equal_to (pair l r) w) (λ e. rest s₁ s₂ w p₁ p₂ e (rw (e, after) at q₂)) (λ e. went_on w s₁ s₂ p₁ p₂ e (rw (e, after) at q₂))
    where
      rest : (s₁ s₂ : Spent) (w : Tree) → one_pass s ≡ done tt s₁ → turn again (pair l r) s₁ ≡ done w s₂ → equal_to (pair l r) w ≡ true → give (pair l r) s₂ ≡ done u x → Turned u s x
      rest s₁ s₂ w p₁ p₂ e q₂ =
          let (i, j) = given (pair l r) u s₂ x q₂ in
          rested s₁ p₁ (p₂ ∙ ap₂ done (sym (equal_to_sound (pair l r) w e)) j) i

  -- and put together: from where a pass changes nothing the pair is given back
  pub rests : (s s₁ x : Spent) → one_pass s ≡ done tt s₁ → turn again (pair l r) s₁ ≡ done (pair l r) x → loop again (suc n) (pair l r) s ≡ done (pair l r) x
  unfolding loop
  rests s s₁ x p q =
      seq_at one_pass (turn again (pair l r) >>= after) s s₁ tt p
      ∙ bind_at (turn again (pair l r)) after s₁ x (pair l r) q
      ∙ rw (equal_to_same (pair l r), after)
