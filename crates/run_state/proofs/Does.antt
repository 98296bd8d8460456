-- How work comes to say what it says, and what follows where it went on after other work. Assumes nothing.
use Prim.Native.Nat.{ℕ}
use native.Mathlib.Omega.{arith}
use mathlib.Core.Path.{◌≡◌}
use mathlib.Core.List.{List}
use mathlib.Core.Bool.{false}
use Rattle.refusals.specs.declared.Refusal.{Refusal}
use Rattle.meaning.specs.Tree.{Tree, equal_to}
use Rattle.meaning.specs.Meter.{Out, done, stop, Spent}
use Rattle.store.specs.Nodes.{tree_at}
use Rattle.store.specs.Store.{Ready}
use Rattle.store.specs.Makers.{Grown}
use Rattle.store.proofs.Ready.{grown_both}
use Rattle.run_state.specs.declared.Outcome.{Outcome}
use Rattle.run_state.specs.declared.Outcome.TheVariants.{Same, Changed, Stopped}
use Rattle.run_state.specs.declared.Work.{Work}
use Rattle.run_state.specs.Work.{spent_of, with_last, SameAs, ChangedTo, StoppedBy, Says, Did}

-- ---- three ways to end

module _ (f s s' : List ℕ) (w q : Work) (x : Tree) (def : Out Spent Tree) where
  pub did_same : q ≡ with_last w Same → Grown f s s' w.ch w.ch → def ≡ done x (spent_of w) → Did f s s' w x def q
  unfolding Did Says
  did_same e g d = rw e (record { grown = g; gives = d })

  pub did_changed : (m : ℕ) (t : Tree) → q ≡ with_last w (Changed m) → Grown f s s' w.ch w.ch → Ready f s' w.ch m → tree_at f s' m ≡ t → def ≡ done t (spent_of w) → equal_to x t ≡ false
      → Did f s s' w x def q
  unfolding Did Says
  did_changed m t e g r i d o = rw e (record { grown = g; ready = r; gives = rw i d; differs = rw i o })

  pub did_stopped : (r : Refusal) (after : Spent) → q ≡ with_last w (Stopped r) → def ≡ stop r after → Did f s s' w x def q
  unfolding Did Says
  did_stopped r after e d = rw e (record { after = after; stops = d })

-- ---- after other work that changed nothing but what is remembered

module _ (f s s₁ s₂ : List ℕ) (w : Work) (x : Tree) (def : Out Spent Tree) (g : Grown f s s₁ w.ch w.ch) where
  pub did_after : (q : Work) → Did f s₁ s₂ w x def q → Did f s s₂ w x def q
  unfolding Did Says
  did_after q h = go q.last h
    where
      go : (o : Outcome) → Says f s₁ s₂ w q x def o → Says f s s₂ w q x def o
      go Same h = record { grown = grown_both g h.grown; gives = h.gives }
      go (Changed m) h = record { grown = grown_both g h.grown; ready = h.ready; gives = h.gives; differs = h.differs }
      go (Stopped r) h = h

-- ---- as other code meets it

module _ (f s s' : List ℕ) (w q : Work) (x : Tree) (def : Out Spent Tree) (h : Did f s s' w x def q) where
  pub says_same : q.last ≡ Same → SameAs f s s' w q x def
  unfolding Did Says
  says_same e = go q.last h e
    where
      go : (o : Outcome) → Says f s s' w q x def o → o ≡ Same → SameAs f s s' w q x def
      go Same k i = k
      go (Changed m) k i = let z : ◌≡◌ {A = ℕ} 0 1 = cc in absurd (omega arith)
      go (Stopped r) k i = let z : ◌≡◌ {A = ℕ} 0 1 = cc in absurd (omega arith)

  pub says_changed : (m : ℕ) → q.last ≡ Changed m → ChangedTo f s s' w q x m def
  unfolding Did Says
  says_changed m e = go q.last h e
    where
      go : (o : Outcome) → Says f s s' w q x def o → o ≡ Changed m → ChangedTo f s s' w q x m def
      go Same k i = let z : ◌≡◌ {A = ℕ} 0 1 = cc in absurd (omega arith)
      go (Changed n) k i = let z : n ≡ m = cc in rw z at k
      go (Stopped r) k i = let z : ◌≡◌ {A = ℕ} 0 1 = cc in absurd (omega arith)

  pub says_stopped : (r : Refusal) → q.last ≡ Stopped r → StoppedBy r def
  unfolding Did Says
  says_stopped r e = go q.last h e
    where
      go : (o : Outcome) → Says f s s' w q x def o → o ≡ Stopped r → StoppedBy r def
      go Same k i = let z : ◌≡◌ {A = ℕ} 0 1 = cc in absurd (omega arith)
      go (Changed m) k i = let z : ◌≡◌ {A = ℕ} 0 1 = cc in absurd (omega arith)
      go (Stopped t) k i = let z : t ≡ r = cc in rw z at k
