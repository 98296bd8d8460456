-- The reader's count of nested parts: the form's own length is enough, and more changes nothing. Assumes nothing.
use Prim.Native.Nat.{ℕ, zero, suc, ◌+◌, ◌≤◌}
use mathlib.Core.Path.{◌≡◌, refl, sym, ◌∙◌, ap}
use mathlib.Core.List.{List, [], ◌∷◌, ◌++◌}
use mathlib.Core.Bool.{Bool, true, false}
use lib.Dec.{eqb}
use lib.ListN.{length, length-append}
use native.Mathlib.Omega.{arith}
use Rattle.refusals.specs.declared.Refusal.TheVariants.{EndsEarly}
use Rattle.meaning.specs.Tree.{Tree}
use Rattle.meaning.specs.Meter.{Out, done, stop, M, ◌>>=◌, refuse}
use Rattle.meaning.specs.Form.{Reading, Bounds, next, first_of, read_atom, read}
use Rattle.meaning.proofs.ReaderLaws.{at}
use Rattle.meaning.proofs.WriteRead.{two_parts}
use Rattle.meaning.proofs.ReadWrite.{read_inv}

-- two works that begin alike, and go on alike from what the first gives
bind_same : {S A B : Type 0} (m n : M S A) (f g : A → M S B) (s : S) → m s ≡ n s → ((a : A) (t : S) → m s ≡ done a t → f a t ≡ g a t) → (m >>= f) s ≡ (n >>= g) s
unfolding ◌>>=◌
bind_same {S} {A} {B} m n f g s e k = go (m s) (n s) refl e
  where
    go : (o p : Out S A) → m s ≡ o → o ≡ p → ◌≡◌ {A = Out S B} (elim o [ done a t ↦ f a t | stop n t ↦ stop n t ]) (elim p [ done a t ↦ g a t | stop n t ↦ stop n t ])
    go (done a t) p i j = k a t i ∙ ap (λ p. elim p as (λ _. Out S B) [ done a t ↦ g a t | stop n t ↦ stop n t ]) j
    go (stop n t) p i j = ap (λ p. elim p as (λ _. Out S B) [ done a t ↦ g a t | stop n t ↦ stop n t ]) j

module _ (b : Bounds) where
  ended : (k : ℕ) (l : List ℕ) (u : ℕ) → length l ≤ 0 → read b k (at l u) ≡ stop EndsEarly (at l u)
  unfolding read next first_of refuse
  ended zero l u h = refl
  ended (suc k) [] u h = refl
  ended (suc k) (x ∷ l) u h = absurd (omega arith)

  -- reading leaves no more bytes than there were
  fewer : (k : ℕ) (t : Tree) (s s' : Reading) → read b k s ≡ done t s' → length s'.left ≤ length s.left
  fewer k t s s' h =
      let r = read_inv b k t s s' h in
      let e : length s.left ≡ length (r.taken ++ s'.left) = ap length r.took.bytes in
      let f : length (r.taken ++ s'.left) ≡ length r.taken + length s'.left = length-append r.taken s'.left in
      omega arith

  parts_same : (k j : ℕ) (s : Reading) → ((t : Reading) → length t.left ≤ length s.left → read b k t ≡ read b j t) → two_parts b k s ≡ two_parts b j s
  parts_same k j s same =
      bind_same (read b k) (read b j) _ _ s (same s (omega arith))
      (λ l t e. bind_same (read b k) (read b j) _ _ t (same t (fewer k l s t e)) (λ r t' _. refl))

  step_same : (k j x : ℕ) (l : List ℕ) (u : ℕ) → two_parts b k (at l u) ≡ two_parts b j (at l u) → read b (suc k) (at (x ∷ l) u) ≡ read b (suc j) (at (x ∷ l) u)
  unfolding read next first_of
  step_same k j x l u same = go (eqb x 0xff)
    where
      go : (c : Bool) → (elim c as (λ _. M Reading Tree) [ true ↦ two_parts b k | false ↦ read_atom b x ]) (at l u) ≡ (elim c as (λ _. M Reading Tree) [ true ↦ two_parts b j | false ↦ read_atom b x ]) (at l u)
      go true = same
      go false = refl

  -- any two counts that are no less than the bytes that are left read alike
  pub read_enough : (k j : ℕ) (s : Reading) → length s.left ≤ k → length s.left ≤ j → read b k s ≡ read b j s
  read_enough zero j s h i = ended 0 s.left s.units h ∙ sym (ended j s.left s.units h)
  read_enough (suc k) zero s h i = ended (suc k) s.left s.units i ∙ sym (ended 0 s.left s.units i)
  read_enough (suc k) (suc j) s h i = go s.left s.units h i (λ t. read_enough k j t)
    where
      go : (l : List ℕ) (u : ℕ) → length l ≤ suc k → length l ≤ suc j → ((t : Reading) → length t.left ≤ k → length t.left ≤ j → read b k t ≡ read b j t)
          → read b (suc k) (at l u) ≡ read b (suc j) (at l u)
      go [] u h i same = ended (suc k) [] u (omega arith) ∙ sym (ended (suc j) [] u (omega arith))
      go (x ∷ l) u h i same = step_same k j x l u (parts_same k j (at l u) (λ t f. same t (omega arith) (omega arith)))
