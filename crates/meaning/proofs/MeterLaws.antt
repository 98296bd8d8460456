-- Work that was done, taken apart. Assumes nothing.
use mathlib.Core.Path.{◌≡◌, refl, sym, subst}
use Rattle.refusals.specs.declared.Refusal.{Refusal}
use Rattle.meaning.specs.Meter.{M, Out, done, stop, ◌>>=◌, ◌>>◌, give}

module _ {S : Type 0} where
  IsDone : {A : Type 0} → Out S A → Type 0
  IsDone (done a s) = Unit {0}
  IsDone (stop n s) = ⊥

  pub not_stop : {X A : Type 0} {n : Refusal} {a : A} {r s : S} → stop n r ≡ done a s → X
  unfolding IsDone
  not_stop h = absurd (subst IsDone (sym h) tt)

  pub bind_inv : {A B : Type 0} (m : M S A) (f : A → M S B) (s t : S) (b : B) → (m >>= f) s ≡ done b t
      → (a : A) × (u : S) × (m s ≡ done a u) × (f a u ≡ done b t)
  unfolding ◌>>=◌
  bind_inv {A} m f s t b h = go (m s) refl h
    where
      go : (o : Out S A) → m s ≡ o → elim o [ done a u ↦ f a u | stop n u ↦ stop n u ] ≡ done b t → (a : A) × (u : S) × (m s ≡ done a u) × (f a u ≡ done b t)
      go (done a u) e k = (a, u, e, k)
      go (stop n u) e k = not_stop k

  pub seq_inv : {A B : Type 0} (m : M S A) (k : M S B) (s t : S) (b : B) → (m >> k) s ≡ done b t
      → (a : A) × (u : S) × (m s ≡ done a u) × (k u ≡ done b t)
  unfolding ◌>>◌
  seq_inv m k s t b h = bind_inv m (λ x. k) s t b h

  pub give_inv : {A : Type 0} (a b : A) (s t : S) → give a s ≡ done b t → a ≡ b
  unfolding give
  give_inv a b s t h = cc

  pub bind_at : {A B : Type 0} (m : M S A) (f : A → M S B) (s t : S) (a : A) → m s ≡ done a t → (m >>= f) s ≡ f a t
  unfolding ◌>>=◌
  bind_at m f s t a p = rw (p, ◌>>=◌)

  pub seq_at : {A B : Type 0} (m : M S A) (k : M S B) (s t : S) (a : A) → m s ≡ done a t → (m >> k) s ≡ k t
  unfolding ◌>>◌
  seq_at m k s t a p = bind_at m (λ x. k) s t a p

  pub seq_stop : {A B : Type 0} (m : M S A) (k : M S B) (s t : S) (n : Refusal) → m s ≡ stop n t → (m >> k) s ≡ stop n t
  unfolding ◌>>◌
  seq_stop m k s t n p = rw (p, ◌>>=◌)
