-- A call of the driver in which a pass changed the tree gives another tree than it was given. Assumes nothing.
use Prim.Native.Nat.{ℕ, suc}
use mathlib.Core.Path.{◌≡◌, sym, subst}
use mathlib.Core.List.{List}
use mathlib.Core.Bool.{false}
use Rattle.meaning.specs.Tree.{Tree, atom, pair, equal_to}
use Rattle.meaning.specs.Limits.{pass_limit}
use Rattle.meaning.specs.Meter.{Spent, done, give, one_pass}
use Rattle.meaning.specs.Driver.{loop, optimize_sexp}
use Rattle.meaning.proofs.Tests.{on_bool}
use Rattle.meaning.proofs.TreeLaws.{equal_to_sound}
use Rattle.meaning.proofs.SameLaws.{equal_to_no}
use Rattle.meaning.proofs.Cost.{steady_fits}
use Rattle.meaning.proofs.CostRun.{of_run, Fits, steady_gives}
use Rattle.meaning.proofs.CostDriver.{steady_turn}
use Rattle.meaning.proofs.Turn.{turn, Turned, rested, went_on, turned}
use Rattle.meaning.proofs.Ended.{Ended, at_rest, turn_fits, loop_ended}

-- some pass of a call, with d calls left to nest below it, changes t
pub record Changes (d : ℕ) (t : Tree) : Type 0 where
  pub from : Spent
  pub to : Spent
  pub into : Tree
  pub fits : Fits from
  pub did : turn (optimize_sexp d) t from ≡ done into to
  pub other : equal_to t into ≡ false

-- what a pass changes is not finished: what a pass gives does not depend on what was spent before
pub not_ended : (d : ℕ) (l r : Tree) → Changes d (pair l r) → ¬ (Ended d (pair l r))
not_ended d l r c (at_rest _ _ s s₁ x f p q) =
    let (f₁, f₂) = turn_fits d (pair l r) (pair l r) s s₁ x f p q in
    equal_to_no (pair l r) c.into c.other (steady_gives (steady_turn d 1 (pair l r)) s₁ x c.from c.to (pair l r) c.into f₁ c.fits q c.did)

-- so it is never a result, however work went on and from whatever tree
pub changed_differs : (d n : ℕ) (l r v u : Tree) (s x : Spent) → Changes d (pair l r) → Fits s → loop (optimize_sexp d) n v s ≡ done u x → equal_to (pair l r) u ≡ false
changed_differs d n l r v u s x c f h =
    on_bool (equal_to (pair l r) u)
    (λ e. absurd (not_ended d l r c (subst (Ended d) (sym (equal_to_sound (pair l r) u e)) (loop_ended d n v u s x f h))))
    (λ e. e)

-- as the driver's loop meets it: a pass changed the pair to w, and work on w ended with u
pub differs : (d n : ℕ) (l r w u : Tree) (s₁ s₂ x : Spent) → Fits s₁ → turn (optimize_sexp d) (pair l r) s₁ ≡ done w s₂ → equal_to (pair l r) w ≡ false
    → loop (optimize_sexp d) n w s₂ ≡ done u x → (equal_to (pair l r) u ≡ false) × ¬ (pair l r ≡ u)
differs d n l r w u s₁ s₂ x f p e h =
    let z = changed_differs d n l r w u s₂ x (record { from = s₁; to = s₂; into = w; fits = f; did = p; other = e }) (steady_fits of_run (steady_turn d 1 (pair l r)) s₁ s₂ w f p) h in
    (z, equal_to_no (pair l r) u z)

-- what a whole call gave for a tree, from s to x: the atom itself; the pair itself, after one turn whose pass changed nothing; or another tree
pub data CallGave (d : ℕ) : Tree → Tree → Spent → Spent → Type 0 where
  the_atom : (b : List ℕ) (s : Spent) → CallGave d (atom b) (atom b) s s
  the_pair : (l r : Tree) (s s₁ x : Spent) → one_pass s ≡ done tt s₁ → turn (optimize_sexp d) (pair l r) s₁ ≡ done (pair l r) x → CallGave d (pair l r) (pair l r) s x
  another : (l r u : Tree) (s x : Spent) → Changes d (pair l r) → equal_to (pair l r) u ≡ false → CallGave d (pair l r) u s x

loop_gave : (d n : ℕ) (t u : Tree) (s x : Spent) → Fits s → loop (optimize_sexp d) (suc n) t s ≡ done u x → CallGave d t u s x
unfolding loop give
loop_gave d n (atom b) u s x f h =
    let i : atom b ≡ u = cc in
    let j : s ≡ x = cc in
    rw (← i, ← j) (the_atom b s)
loop_gave d n (pair l r) u s x f h = go (turned (optimize_sexp d) n l r u s x h)
  where
    go : Turned (optimize_sexp d) n l r u s x → CallGave d (pair l r) u s x
    go (rested s₁ p q i) = subst (λ v. CallGave d (pair l r) v s x) i (the_pair l r s s₁ x p q)
    go (went_on w s₁ s₂ p q e k) =
        let (f₁, f₂) = turn_fits d (pair l r) w s s₁ s₂ f p q in
        another l r u s x (record { from = s₁; to = s₂; into = w; fits = f₁; did = q; other = e }) (differs d n l r w u s₁ s₂ x f₁ q e k).0

pub call_gave : (d : ℕ) (t u : Tree) (s x : Spent) → Fits s → optimize_sexp (suc d) t s ≡ done u x → CallGave d t u s x
unfolding optimize_sexp
call_gave d t u s x f h = loop_gave d pass_limit t u s x f h
