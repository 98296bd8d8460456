-- Two works that have the same outcome, unless the first is refused with one of some refusals. Assumes nothing.
use mathlib.Core.Path.{◌≡◌, refl, sym, ◌∙◌, ap, subst}
use mathlib.Core.Bool.{Bool, true, false}
use Rattle.refusals.specs.declared.Refusal.{Refusal}
use Rattle.meaning.specs.Meter.{Out, done, stop, M, ◌>>=◌, ◌>>◌, give, refuse, hold}
use Rattle.meaning.proofs.MeterLaws.{not_stop}

pub data Unless (P : Refusal → Type 0) {S A : Type 0} (o o' : Out S A) : Type 0 where
  same : o ≡ o' → Unless P o o'
  off : (n : Refusal) (s : S) → P n → o ≡ stop n s → Unless P o o'

-- what the first gives, the second gives
pub unless_done : {P : Refusal → Type 0} {S A : Type 0} {o o' : Out S A} {a : A} {s : S} → Unless P o o' → o ≡ done a s → o' ≡ done a s
unless_done (same e) h = sym e ∙ h
unless_done (off n s p e) h = not_stop (sym e ∙ h)

-- from every state
pub record Alike (P : Refusal → Type 0) {S A : Type 0} (m n : M S A) : Type 0 where
  pub so : (s : S) → Unless P (m s) (n s)

module _ {P : Refusal → Type 0} {S : Type 0} where
  pub alike : {A : Type 0} (m : M S A) → Alike P m m
  alike m = record { so = λ s. same refl }

  pub alike_bind : {A B : Type 0} {m n : M S A} {f g : A → M S B} → Alike P m n → ((a : A) → Alike P (f a) (g a)) → Alike P (m >>= f) (n >>= g)
  unfolding ◌>>=◌
  alike_bind {A} {B} {m} {n} {f} {g} h k = record { so = λ s. go (m s) (n s) (h.so s) }
    where
      from : (o : Out S A) → Unless P {S = S} {A = B} (elim o [ done a t ↦ f a t | stop r t ↦ stop r t ]) (elim o [ done a t ↦ g a t | stop r t ↦ stop r t ])
      from (done a t) = (k a).so t
      from (stop r t) = same refl

      go : (o o' : Out S A) → Unless P o o' → Unless P {S = S} {A = B} (elim o [ done a t ↦ f a t | stop r t ↦ stop r t ]) (elim o' [ done a t ↦ g a t | stop r t ↦ stop r t ])
      go o o' (same e) = subst (λ (z : Out S A). Unless P {S = S} {A = B} (elim o [ done a t ↦ f a t | stop r t ↦ stop r t ]) (elim z [ done a t ↦ g a t | stop r t ↦ stop r t ])) e (from o)
      go o o' (off r t p e) = off r t p (ap (λ (z : Out S A). elim z as (λ _. Out S B) [ done a t ↦ f a t | stop r t ↦ stop r t ]) e)

  pub alike_seq : {A B : Type 0} {m n : M S A} {k l : M S B} → Alike P m n → Alike P k l → Alike P (m >> k) (n >> l)
  unfolding ◌>>◌
  alike_seq h i = alike_bind h (λ x. i)

  pub alike_if : {A : Type 0} (b : Bool) {m n k l : M S A} → Alike P m n → Alike P k l
      → Alike P {S = S} {A = A} (elim b as (λ x. M S A) [ true ↦ m | false ↦ k ]) (elim b as (λ x. M S A) [ true ↦ n | false ↦ l ])
  alike_if true h i = h
  alike_if false h i = i

  -- a test that is left out,
  pub alike_held : {A : Type 0} (b : Bool) (n : Refusal) → P n → {k l : M S A} → Alike P k l → Alike P (hold b n >> k) l
  unfolding hold give refuse ◌>>◌ ◌>>=◌
  alike_held true n p h = h
  alike_held false n p h = record { so = λ s. off n s p refl }

  -- or always met
  pub alike_hold : (b : Bool) (n : Refusal) → P n → Alike P {S = S} (hold b n) (hold true n)
  unfolding hold give refuse
  alike_hold true n p = alike (give tt)
  alike_hold false n p = record { so = λ s. off n s p refl }
