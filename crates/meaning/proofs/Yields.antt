-- A property of the results of work, carried along the shape of the work. Assumes nothing.
use mathlib.Core.Path.{◌≡◌, refl, subst}
use mathlib.Core.List.{List, [], ◌∷◌}
use mathlib.Core.Bool.{Bool, true, false}
use mathlib.Core.Option.{Option, none, some}
use Rattle.refusals.specs.declared.Refusal.{Refusal}
use Rattle.meaning.specs.Meter.{Out, done, stop, M, E, Steps, Spent, ◌>>=◌, ◌>>◌, give, refuse, within}
use Rattle.meaning.proofs.MeterLaws.{not_stop, bind_inv, give_inv}

-- P holds of every element
unfoldable pub Every : {A : Type 0} → (A → Type 0) → List A → Type 0
Every P [] = Unit {0}
Every P (a ∷ l) = P a × Every P l

-- P holds of what is there
unfoldable pub IfSome : {A : Type 0} → (A → Type 0) → Option A → Type 0
IfSome P none = Unit {0}
IfSome P (some a) = P a

-- P holds of two things, so of what a test chooses
pub either_way : {A : Type 0} (P : A → Type 0) (b : Bool) (x y : A) → P x → P y → P (elim b as (λ z. A) [ true ↦ x | false ↦ y ])
either_way P true x y h k = h
either_way P false x y h k = k

-- P holds of every result that the work m gives
pub record Yields {S A : Type 0} (P : A → Type 0) (m : M S A) : Type 0 where
  pub result : (s t : S) (a : A) → m s ≡ done a t → P a

module _ {S A : Type 0} {P : A → Type 0} where
  pub y_bind : {B : Type 0} {Q : B → Type 0} {m : M S A} {f : A → M S B} → Yields P m → ((a : A) → P a → Yields Q (f a)) → Yields Q (m >>= f)
  y_bind {m} {f} ym yf = record { result = λ s t b h. let (a, u, p, q) = bind_inv m f s t b h in (yf a (ym.result s u a p)).result u t b q }

  pub y_seq : {B : Type 0} (m : M S B) {k : M S A} → Yields P k → Yields P (m >> k)
  unfolding ◌>>◌
  y_seq m {k} yk = record { result = λ s t a h. let (b, u, p, q) = bind_inv m (λ _. k) s t a h in yk.result u t a q }

  pub y_give : (a : A) → P a → Yields {S = S} P (give a)
  y_give a p = record { result = λ s t b h. subst P (give_inv a b s t h) p }

  pub y_refuse : (n : Refusal) → Yields {S = S} P (refuse n)
  unfolding refuse
  y_refuse n = record { result = λ s t a h. not_stop h }

  pub y_if : (b : Bool) {m k : M S A} → (b ≡ true → Yields P m) → (b ≡ false → Yields P k) → Yields {S = S} P (elim b as (λ x. M S A) [ true ↦ m | false ↦ k ])
  y_if true ym yk = ym refl
  y_if false ym yk = yk refl

pub y_within : {A : Type 0} {P : A → Type 0} {m : E A} → Yields P m → Yields P (within m)
unfolding within
y_within {A} {P} {m} ym = record { result = λ s t a h. go s t a (m (record { steps = 0; units = s.units })) refl h }
  where
    go : (s t : Spent) (a : A) (o : Out Steps A) → m (record { steps = 0; units = s.units }) ≡ o
        → ◌≡◌ {A = Out Spent A} (elim o [
          | done a e ↦ done a (record { units = e.units; passes = s.passes; mark = s.mark })
          | stop n e ↦ stop n (record { units = e.units; passes = s.passes; mark = s.mark })
        ]) (done a t)
        → P a
    go s t a (done b e) p k = let i : b ≡ a = cc in subst P i (ym.result _ e b p)
    go s t a (stop n e) p k = not_stop k
