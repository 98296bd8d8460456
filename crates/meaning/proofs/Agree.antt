-- Two pieces of work that do the same wherever a count has come to k, and leave it at j or more. Assumes nothing.
use Prim.Native.Nat.{ℕ, ◌≤◌}
use mathlib.Core.Path.{◌≡◌, refl, ◌∙◌, ap}
use mathlib.Core.Bool.{Bool, true, false}
use native.Mathlib.Omega.{arith}
use Rattle.refusals.specs.declared.Refusal.{Refusal}
use Rattle.meaning.specs.Meter.{M, Out, done, stop, ◌>>=◌, ◌>>◌, give, refuse}

module _ {S : Type 0} (count : S → ℕ) where
  -- work that was done left a count of j or more
  unfoldable pub Leaves : {A : Type 0} → ℕ → Out S A → Type 0
  Leaves j (done a s) = j ≤ count s
  Leaves j (stop n s) = Unit {0}

  pub record Agree {A : Type 0} (k j : ℕ) (m n : M S A) : Type 0 where
    pub same : (s : S) → k ≤ count s → m s ≡ n s
    pub leaves : (s : S) → k ≤ count s → Leaves j (m s)

  pub agree_give : {A : Type 0} (k : ℕ) (a : A) → Agree k k (give a) (give a)
  unfolding give Leaves
  agree_give k a = record { same = λ s l. refl; leaves = λ s l. l }

  pub agree_refuse : {A : Type 0} (k j : ℕ) (n : Refusal) → Agree {A = A} k j (refuse n) (refuse n)
  unfolding refuse Leaves
  agree_refuse k j n = record { same = λ s l. refl; leaves = λ s l. tt }

  pub agree_if : {A : Type 0} {k j : ℕ} (b : Bool) {m n o p : M S A} → Agree k j m o → Agree k j n p
      → Agree {A = A} k j (elim b as (λ x. M S A) [ true ↦ m | false ↦ n ]) (elim b as (λ x. M S A) [ true ↦ o | false ↦ p ])
  agree_if true mo np = mo
  agree_if false mo np = np

  -- less may be said of what is left
  pub agree_less : {A : Type 0} {k j : ℕ} (i : ℕ) {m n : M S A} → i ≤ j → Agree k j m n → Agree k i m n
  unfolding Leaves
  agree_less {A} {k} {j} i {m} {n} l mn = record { same = mn.same; leaves = λ s h. go (m s) (mn.leaves s h) }
    where
      go : (o : Out S A) → Leaves j o → Leaves i o
      go (done a t) h = omega arith
      go (stop r t) h = tt

  -- what the first leaves is enough for the second
  pub agree_bind : {A B : Type 0} {k j i : ℕ} {m n : M S A} {f g : A → M S B} → Agree k j m n → ((a : A) → Agree j i (f a) (g a)) → Agree k i (m >>= f) (n >>= g)
  unfolding ◌>>=◌ Leaves
  agree_bind {A} {B} {k} {j} {i} {m} {n} {f} {g} mn fg = record {
    same = λ s l. same (m s) (mn.leaves s l) ∙ ap (on g) (mn.same s l);
    leaves = λ s l. leaves (m s) (mn.leaves s l);
  }
    where
      on : (A → M S B) → Out S A → Out S B
      on h o = elim o [ done a t ↦ h a t | stop r t ↦ stop r t ]

      same : (o : Out S A) → Leaves j o → on f o ≡ on g o
      same (done a t) h = (fg a).same t h
      same (stop r t) h = refl

      leaves : (o : Out S A) → Leaves j o → Leaves i (on f o)
      leaves (done a t) h = (fg a).leaves t h
      leaves (stop r t) h = tt

  pub agree_seq : {A B : Type 0} {k j i : ℕ} {m n : M S A} {p q : M S B} → Agree k j m n → Agree j i p q → Agree k i (m >> p) (n >> q)
  unfolding ◌>>◌
  agree_seq mn pq = agree_bind mn (λ x. pq)

  -- work that leaves the count at what it was, or more, agrees with itself
  pub agree_self : {A : Type 0} (k : ℕ) (m : M S A) → ((s : S) → Leaves (count s) (m s)) → Agree k k m m
  unfolding Leaves
  agree_self {A} k m up = record { same = λ s l. refl; leaves = λ s l. go s l (m s) (up s) }
    where
      go : (s : S) → k ≤ count s → (o : Out S A) → Leaves (count s) o → Leaves k o
      go s l (done a t) h = omega arith
      go s l (stop r t) h = tt
