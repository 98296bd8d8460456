-- Work put together: brackets do not matter, and a part may be changed for one that does the same. Assumes nothing.
use mathlib.Core.Path.{◌≡◌, refl, ap}
use Rattle.refusals.specs.declared.Refusal.{Refusal}
use Rattle.meaning.specs.Meter.{M, Out, done, stop, ◌>>=◌}

module _ {S : Type 0} where
  -- what becomes of an outcome
  on : {A B : Type 0} → (A → M S B) → Out S A → Out S B
  on f o = elim o [ done a t ↦ f a t | stop n t ↦ stop n t ]

  pub bind_assoc : {A B C : Type 0} (m : M S A) (f : A → M S B) (g : B → M S C) (s : S) → ((m >>= f) >>= g) s ≡ (m >>= λ a. f a >>= g) s
  unfolding ◌>>=◌ on
  bind_assoc {A} m f g s = go (m s)
    where
      go : (o : Out S A) → on g (on f o) ≡ on (λ a. f a >>= g) o
      go (done a t) = refl
      go (stop n t) = refl

  -- what follows is changed
  pub bind_same : {A B : Type 0} (m : M S A) (f g : A → M S B) (s : S) → ((a : A) (t : S) → f a t ≡ g a t) → (m >>= f) s ≡ (m >>= g) s
  unfolding ◌>>=◌ on
  bind_same {A} m f g s h = go (m s)
    where
      go : (o : Out S A) → on f o ≡ on g o
      go (done a t) = h a t
      go (stop n t) = refl

  -- what goes before is changed
  pub bind_head : {A B : Type 0} (m n : M S A) (f : A → M S B) (s : S) → m s ≡ n s → (m >>= f) s ≡ (n >>= f) s
  unfolding ◌>>=◌ on
  bind_head m n f s h = ap (on f) h

  pub bind_stop : {A B : Type 0} (m : M S A) (f : A → M S B) (s t : S) (n : Refusal) → m s ≡ stop n t → (m >>= f) s ≡ stop n t
  unfolding ◌>>=◌
  bind_stop m f s t n p = rw (p, ◌>>=◌)
