-- Outcomes and answers: work that stops, answers taken apart and made, and carried on. Assumes nothing.
use Rattle.std.specs.Prelude.{Result, Ok, Err}
use Prim.Native.Nat.{ℕ, ◌≤◌}
use mathlib.Core.Path.{◌≡◌, refl, sym, ◌∙◌, ap}
use mathlib.Core.List.{List}
use mathlib.Core.Option.{some}
use native.Mathlib.Omega.{arith}
use Rattle.refusals.specs.declared.Refusal.{Refusal}
use Rattle.meaning.specs.Tree.{Tree}
use Rattle.meaning.specs.Meter.{M, Out, done, stop, Steps, ◌>>=◌, ◌>>◌}
use Rattle.meaning.specs.Evaluate.{evaluate}
use Rattle.store.specs.Nodes.{tree_at}
use Rattle.store.specs.Store.{Ready}
use Rattle.store.specs.Makers.{Grown}
use Rattle.store.proofs.Ready.{grown_none, grown_both}
use Rattle.evaluator.specs.declared.Meter.{Meter}
use Rattle.evaluator.specs.declared.Valued.{Valued}
use Rattle.evaluator.specs.declared.Performed.{Performed}
use Rattle.evaluator.specs.declared.Performed.TheVariants.{Done, Runs}
use Rattle.evaluator.specs.Values.{state, stopped, Given, ValuedOk, Asks, PerformedOk, answered}

-- ---- work that stops

module _ {S A B : Type 0} where
  pub bind_stopped : (w : M S A) (k : A → M S B) (s : S) (r : Refusal) → stopped (w s) ≡ some r → stopped ((w >>= k) s) ≡ some r
  unfolding ◌>>=◌ stopped
  bind_stopped w k s r h = go (w s) h
    where
      go : (o : Out S A) → stopped o ≡ some r → stopped {S = S} {A = B} (elim o [ done a t ↦ k a t | stop n t ↦ stop n t ]) ≡ some r
      go (done a t) e = absurd (let z : ◌≡◌ {A = ℕ} 0 1 = cc in omega arith)
      go (stop n t) e = e

  pub seq_stopped : (w : M S A) (k : M S B) (s : S) (r : Refusal) → stopped (w s) ≡ some r → stopped ((w >> k) s) ≡ some r
  unfolding ◌>>◌
  seq_stopped w k s r h = bind_stopped w (λ x. k) s r h

-- ---- answers

module _ (f s s' : List ℕ) (m : Meter) (o : Out Steps Tree) (a : Result Valued Refusal) where
  pub is_value : (q : Valued) → ValuedOk f s s' m o a → a ≡ Ok q → Given f s s' m q.meter q.node o
  unfolding ValuedOk
  is_value q h e = rw e at h

  pub is_refused : (r : Refusal) → ValuedOk f s s' m o a → a ≡ Err r → stopped o ≡ some r
  unfolding ValuedOk
  is_refused r h e = rw e at h

-- a node of the room as it is
pub stays : (f s : List ℕ) (m : Meter) (o : Out Steps Tree) (q : ℕ) → Ready f s m.ch q → o ≡ done (tree_at f s q) (state m) → ValuedOk f s s m o (Ok (record { node = q; meter = m }))
unfolding ValuedOk
stays f s m o q h e = record { grown = grown_none f s m.ch h.held; ready = h; free = refl; value = e }

pub stops : (f s s' : List ℕ) (m : Meter) (o : Out Steps Tree) (r : Refusal) → stopped o ≡ some r → ValuedOk f s s' m o (Err r)
unfolding ValuedOk
stops f s s' m o r e = e

-- ---- what comes of an expression or of an operator's arguments

-- a program to run, with nothing done before
pub asks_now : (f s : List ℕ) (m : Meter) (p e : ℕ) → Ready f s m.ch p → Ready f s m.ch e → Asks f s s m m p e (evaluate (tree_at f s p) (tree_at f s e) (state m))
asks_now f s m p e h k = record { grown = grown_none f s m.ch h.held; free = refl; later = omega arith; program = h; environment = k; gives = refl }

-- an answer
pub answers : (f s s' : List ℕ) (m : Meter) (o : Out Steps Tree) (a : Result Valued Refusal) (p : Result Performed Refusal) → ValuedOk f s s' m o a → p ≡ answered a → PerformedOk f s s' m o p
unfolding ValuedOk PerformedOk
answers f s s' m o a p h e = rw e (go a h)
  where
    go : (a : Result Valued Refusal) → ValuedOk f s s' m o a → PerformedOk f s s' m o (answered a)
    go (Ok q) k = k
    go (Err r) k = k

-- what came from a later room comes from the earlier one, with the outcome under another name
pub comes_since : (f s s₁ s₂ : List ℕ) (m m₁ : Meter) (o o' : Out Steps Tree) (a : Result Performed Refusal) → PerformedOk f s₁ s₂ m₁ o a → o ≡ o' → Grown f s s₁ m.ch m₁.ch → m₁.ch.free ≡ m.ch.free → m.steps ≤ m₁.steps → PerformedOk f s s₂ m o' a
unfolding PerformedOk
comes_since f s s₁ s₂ m m₁ o o' (Ok (Done q)) h eo g e l = record { grown = grown_both g h.grown; ready = h.ready; free = h.free ∙ e; value = sym eo ∙ h.value }
comes_since f s s₁ s₂ m m₁ o o' (Ok (Runs x z u)) h eo g e l =
    let k : m₁.steps ≤ u.steps = h.later in
    record { grown = grown_both g h.grown; free = h.free ∙ e; later = omega arith; program = h.program; environment = h.environment; gives = sym eo ∙ h.gives }
comes_since f s s₁ s₂ m m₁ o o' (Err r) h eo g e l = ap stopped (sym eo) ∙ h
