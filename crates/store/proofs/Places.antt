-- Nodes: places of records, one after the other.
use Rattle.std.proofs.Common.{◌≡◌, ℕ, zero, suc, ◌+◌, ◌-◌, ◌<◌, ◌≤◌, Bool, true, false, eqb, ltb, List, refl, ap, ◌∙◌, arith, ltb-false, ltb-true, eq-eqb}
use Rattle.store.specs.Cells.{kind_at, size_at, place, Starts, standing, pick}

size_least : (s : List ℕ) (n : ℕ) → 5 ≤ size_at s n
unfolding size_at
size_least s n = go (eqb (kind_at s n) 2)
  where
    go : (b : Bool) → 5 ≤ pick b 15 5
    go true = omega arith
    go false = omega arith

pub size_pair : (s : List ℕ) (n : ℕ) → kind_at s n ≡ 2 → size_at s n ≡ 15
unfolding size_at
size_pair s n e = simp (eq-eqb _ _ e)

pub size_cong : (s t : List ℕ) (n : ℕ) → kind_at t n ≡ kind_at s n → size_at t n ≡ size_at s n
unfolding size_at
size_cong s t n e = rw e

climbs : (s : List ℕ) (i d : ℕ) → place s i + size_at s (place s i) ≤ place s (suc i + d)
unfolding place
climbs s i zero = let e : suc i + 0 ≡ suc i = omega arith in rw e (omega arith)
climbs s i (suc d) = let e : suc i + suc d ≡ suc (suc i + d) = omega arith in rw e (omega (arith, climbs s i d))

grows : (s : List ℕ) (i d : ℕ) → place s i ≤ place s (i + d)
unfolding place
grows s i zero = let e : i + 0 ≡ i = omega arith in rw e (omega arith)
grows s i (suc d) = let e : i + suc d ≡ suc (i + d) = omega arith in rw e (omega (arith, grows s i d))

pub split : {A : Type 0} (m n : ℕ) → (m < n → A) → (n ≤ m → A) → A
split {A} m n a b = go (ltb m n) refl
  where
    go : (v : Bool) → ltb m n ≡ v → A
    go true e = a (ltb-true m n e)
    go false e = b (ltb-false m n e)

-- by whether j is m
pub whether : {A : Type 0} (j m : ℕ) → (j ≡ m → A) → ((j ≡ m → ⊥) → A) → A
whether j m a b = split j m (λ h. b (λ e. omega arith)) (λ h. split m j (λ k. b (λ e. omega arith)) (λ k. a (omega arith)))

-- two records do not overlap
pub apart : (s : List ℕ) (m n : ℕ) → Starts s m → Starts s n → m < n → m + size_at s m ≤ n
apart s m n (standing i ei) (standing j ej) h = split i j
    (λ k.
    let d : ℕ = j - suc i in
    let w : suc i + d ≡ j = omega arith in
    rw (← ei, ← ej, ← w) (climbs s i d))
    (λ k.
    let d : ℕ = i - j in
    let w : j + d ≡ i = omega arith in
    let g : place s j ≤ place s (j + d) = grows s j d in
    let g' : place s j ≤ place s i = rw w at g in
    absurd (omega arith))

pub apart5 : (s : List ℕ) (m n : ℕ) → Starts s m → Starts s n → m < n → m + 5 ≤ n
apart5 s m n a b h = omega (arith, apart s m n a b h, size_least s m)

pub apart15 : (s : List ℕ) (m n : ℕ) → Starts s m → Starts s n → m < n → kind_at s m ≡ 2 → m + 15 ≤ n
apart15 s m n a b h e = omega (arith, apart s m n a b h, size_pair s m e)

-- where the kinds of the records below n agree, so do their places
module _ (s t : List ℕ) (n : ℕ) (ek : (m : ℕ) → Starts s m → m < n → kind_at t m ≡ kind_at s m) where
  step : (i : ℕ) → place s i < n → size_at t (place s i) ≡ size_at s (place s i)
  step i h = size_cong s t (place s i) (ek (place s i) (standing i refl) h)

  places : (i : ℕ) → place s i ≤ n → place t i ≡ place s i
  unfolding place
  places zero h = refl
  places (suc i) h =
      let a : 5 ≤ size_at s (place s i) = size_least s (place s i) in
      let e : place t i ≡ place s i = places i (omega arith) in
      rw e (ap (λ (k : ℕ). place s i + k) (step i (omega arith)))

  places_back : (i : ℕ) → place t i ≤ n → place s i ≡ place t i
  unfolding place
  places_back zero h = refl
  places_back (suc i) h =
      let a : 5 ≤ size_at t (place t i) = size_least t (place t i) in
      let e : place s i ≡ place t i = places_back i (omega arith) in
      let z : size_at t (place s i) ≡ size_at s (place s i) = step i (omega arith) in
      let y : size_at t (place t i) ≡ size_at s (place s i) = rw (← e) z in
      omega arith

  pub node_kept : (m : ℕ) → Starts s m → m ≤ n → Starts t m
  node_kept m (standing i e) h = standing i (places i (omega arith) ∙ e)

  pub node_back : (m : ℕ) → Starts t m → m ≤ n → Starts s m
  node_back m (standing i e) h = standing i (places_back i (omega arith) ∙ e)

-- the record after a node is a node
pub node_next : (s : List ℕ) (n k : ℕ) → Starts s n → size_at s n ≡ k → Starts s (n + k)
unfolding place
node_next s n k (standing i ei) e = standing (suc i) (rw (ei, e))

pub node_zero : (s : List ℕ) → Starts s 0
unfolding place
node_zero s = standing 0 refl
