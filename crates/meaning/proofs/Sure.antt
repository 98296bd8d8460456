-- What is sure of work that was done: of what it gives, and of the state before it. Assumes nothing.
use mathlib.Core.Path.{◌≡◌, refl, subst}
use mathlib.Core.Bool.{Bool, true, false}
use mathlib.Core.Option.{Option, none, some}
use Rattle.refusals.specs.declared.Refusal.{Refusal}
use Rattle.meaning.specs.Meter.{M, done, ◌>>=◌, ◌>>◌, give, refuse}
use Rattle.meaning.proofs.MeterLaws.{not_stop, bind_inv}

-- where m is done in a state that is Fit, it began in one, and what it gives is P
pub record Sure {S A : Type 0} (Fit : S → Type 0) (m : M S A) (P : A → Type 0) : Type 0 where
  pub at : (s t : S) (a : A) → m s ≡ done a t → Fit t → Fit s × P a

module _ {S : Type 0} {Fit : S → Type 0} where
  pub sure_give : {A : Type 0} (a : A) {P : A → Type 0} → P a → Sure Fit (give a) P
  unfolding give
  sure_give a {P} p = record { at = λ s t b h k. let i : a ≡ b = cc in let j : t ≡ s = cc in (subst Fit j k, subst P i p) }

  pub sure_refuse : {A : Type 0} (n : Refusal) {P : A → Type 0} → Sure Fit (refuse {A = A} n) P
  unfolding refuse
  sure_refuse n = record { at = λ s t b h k. not_stop h }

  -- what follows must give Q where the first gave P
  pub sure_bind : {A B : Type 0} {m : M S A} {f : A → M S B} {P : A → Type 0} {Q : B → Type 0}
      → Sure Fit m P → ((a : A) → Sure Fit (f a) (λ b. P a → Q b)) → Sure Fit (m >>= f) Q
  sure_bind {m = m} {f} g k = record {
    at = λ s t b h fit.
        let (a, u, p, q) = bind_inv m f s t b h in
        let (x, y) = (k a).at u t b q fit in
        let (z, w) = g.at s u a p x in
        (z, y w);
  }

  pub sure_seq : {A B : Type 0} {m : M S A} {k : M S B} {P : Type 0} {Q : B → Type 0}
      → Sure Fit m (λ x. P) → Sure Fit k (λ b. P → Q b) → Sure Fit (m >> k) Q
  unfolding ◌>>◌
  sure_seq g k = sure_bind g (λ x. k)

  pub sure_if : {A : Type 0} (b : Bool) {m n : M S A} {P : A → Type 0} → (b ≡ true → Sure Fit m P) → (b ≡ false → Sure Fit n P)
      → Sure Fit (elim b as (λ x. M S A) [ true ↦ m | false ↦ n ]) P
  sure_if true f g = f refl
  sure_if false f g = g refl

  pub sure_option : {A B : Type 0} (o : Option B) {m : M S A} {f : B → M S A} {P : A → Type 0}
      → (o ≡ none → Sure Fit m P) → ((b : B) → o ≡ some b → Sure Fit (f b) P)
      → Sure Fit (elim o as (λ x. M S A) [ none ↦ m | some b ↦ f b ]) P
  sure_option none f g = f refl
  sure_option (some b) f g = g b refl

  pub sure_map : {A : Type 0} {m : M S A} {P Q : A → Type 0} → ((a : A) → P a → Q a) → Sure Fit m P → Sure Fit m Q
  sure_map f g = record { at = λ s t a h k. let (x, y) = g.at s t a h k in (x, f a y) }
