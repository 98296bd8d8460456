-- The functions on the rules' counts: each return; and that counts are exact. Assumes nothing.
use mathlib.Core.Path.{◌≡◌, refl, sym, ◌∙◌, ap, subst}
use mathlib.Core.List.{List, [], ◌∷◌}
use mathlib.Core.Bool.{true, false}
use Prim.Native.Nat.{ℕ, zero, suc, ◌+◌, ◌-◌, ◌*◌, ◌<◌, ◌≤◌}
use native.Mathlib.Omega.{arith}
use native.Mathlib.Nat.{zero-add}
use native.Mathlib.Decide.{dec_le}
use lib.Dec.{eqb}
use lib.ListN.{length, get_or, set, length-set, drop, replicate}
use lib.Seq.{get_or-set_same, get_or-set_other, get_or-drop}
use borrow.Author.Tests.{lt-ltb, le-ltb, eqb-true, eqb-false, eq-eqb, ne_eqb}
use Rattle.meaning.specs.Tree.{Tree}
use Rattle.meaning.specs.Meter.{Log, count_of}
use Rattle.meaning.proofs.Tests.{on_bool}
use Rattle.run_state.specs.declared.Notes.{Notes}
use Rattle.run_state.specs.declared.Notes.TheVariants.{Nothing, Counts}
use Rattle.run_state.specs.Notes.{count_records, place_of, one_more, value_of, count_in, noted, counts_of, counted, counted_all, Noted, as_counted}

-- ---- one_more

module _ (a : List ℕ) where
  pub more_low : get_or a 0 0 < 65535 → (get_or a 0 0 + 1) ∷ get_or a 1 0 ∷ 0 ∷ 0 ∷ 0 ∷ 0 ∷ [] ≡ one_more a
  unfolding one_more
  more_low l = rw (lt-ltb (get_or a 0 0) 65_535 l)

  module _ (l : 65535 ≤ get_or a 0 0) where
    pub more_high : get_or a 1 0 < 65535 → 0 ∷ (get_or a 1 0 + 1) ∷ 0 ∷ 0 ∷ 0 ∷ 0 ∷ [] ≡ one_more a
    unfolding one_more
    more_high k = rw (le-ltb (get_or a 0 0) 65_535 l, lt-ltb (get_or a 1 0) 65_535 k)

    pub more_full : 65535 ≤ get_or a 1 0 → a ≡ one_more a
    unfolding one_more
    more_full k = rw (le-ltb (get_or a 0 0) 65_535 l, le-ltb (get_or a 1 0) 65_535 k)

-- ---- note

pub note_nothing : (row : List (List ℕ)) (notes : Notes) (k : ℕ) → notes ≡ Nothing → row ≡ noted notes row k
unfolding noted
note_nothing row notes k e = rw e refl

counts_one : (row : List (List ℕ)) (k : ℕ) → 0 < k → set row (place_of row (k - 1)) (one_more (get_or row (place_of row (k - 1)) [])) ≡ noted Counts row k
unfolding noted
counts_one row zero l = absurd (omega arith)
counts_one row (suc j) l = let z : suc j - 1 ≡ j = omega arith in rw z refl

pub note_counts : (row : List (List ℕ)) (notes : Notes) (k : ℕ) (b : List ℕ) → b ≡ one_more (get_or row (length row - 8 + (k - 1)) []) → notes ≡ Counts → 0 < k → set row (length row - 8 + (k - 1)) b ≡ noted notes row k
note_counts row notes k b eb e l = rw (e, eb) (counts_one row k l)

-- ---- count_in

pub counted_at : (row : List (List ℕ)) (k a b : ℕ) → a ≡ get_or (get_or row (length row - 8 + (k - 1)) []) 0 0 → b ≡ get_or (get_or row (length row - 8 + (k - 1)) []) 1 0 → a + b * 65536 ≡ count_in row k
unfolding count_in
counted_at row k a b ea eb = rw (ea, eb) refl

-- ---- counts are exact

-- a record whose numbers count to v
pub data Digits : List ℕ → ℕ → Type 0 where
  digits : (lo hi : ℕ) → lo < 65536 → Digits (lo ∷ hi ∷ 0 ∷ 0 ∷ 0 ∷ 0 ∷ []) (lo + hi * 65536)

digits_as : {a : List ℕ} {v w : ℕ} → v ≡ w → Digits a v → Digits a w
digits_as {a} e d = subst (Digits a) e d

pub digits_more : {a : List ℕ} {v : ℕ} → Digits a v → v < 4294967295 → Digits (one_more a) (v + 1)
digits_more (digits lo hi l) k = go (dec_le 65535 lo)
  where
    a : List ℕ
    a = lo ∷ hi ∷ 0 ∷ 0 ∷ 0 ∷ 0 ∷ []

    go : Dec (65535 ≤ lo) → Digits (one_more (lo ∷ hi ∷ 0 ∷ 0 ∷ 0 ∷ 0 ∷ [])) (lo + hi * 65536 + 1)
    go (yes m) =
        let h : hi < 65535 = omega arith in
        subst (λ (b : List ℕ). Digits b (lo + hi * 65536 + 1)) (more_high (lo ∷ hi ∷ 0 ∷ 0 ∷ 0 ∷ 0 ∷ []) m h) (digits_as (omega arith) (digits 0 (hi + 1) (omega arith)))
    go (no m) =
        let h : lo < 65535 = omega (arith, m) in
        subst (λ (b : List ℕ). Digits b (lo + hi * 65536 + 1)) (more_low (lo ∷ hi ∷ 0 ∷ 0 ∷ 0 ∷ 0 ∷ []) h) (digits_as (omega arith) (digits (lo + 1) hi (omega arith)))

pub digits_value : {a : List ℕ} {v : ℕ} → Digits a v → value_of a ≡ v
digits_value (digits lo hi l) = refl

-- the counts of each rule so far are m
pub record Tallies (c : List (List ℕ)) (m : ℕ → ℕ) : Type 0 where
  pub eight : length c ≡ 8
  pub each : (j : ℕ) → j < 8 → Digits (get_or c j []) (m (suc j))

-- one more of rule number n
one_of : (n : ℕ) → (ℕ → ℕ) → ℕ → ℕ
one_of n m k = elim (eqb n k) [ true ↦ m k + 1 | false ↦ m k ]

module _ (c : List (List ℕ)) (m : ℕ → ℕ) (t : Tallies c m) (l : (k : ℕ) → m k < 4294967295) (i j : ℕ) (b : j < 8) where
  abbrev after : List (List ℕ)
  after = set c i (one_more (get_or c i []))

  same_rule : i ≡ j → Digits (get_or after j []) (one_of (suc i) m (suc j))
  unfolding one_of
  same_rule e =
      subst (λ (k : ℕ). Digits (get_or after k []) (one_of (suc i) m (suc k))) e
      (rw (get_or-set_same c i (one_more (get_or c i [])) [] (omega (arith, t.eight, e)), one_of, eq-eqb (suc i) (suc i) refl)
      (digits_more (t.each i (omega (arith, e))) (l (suc i))))

  other_rule : (i ≡ j → ⊥) → Digits (get_or after j []) (one_of (suc i) m (suc j))
  unfolding one_of
  other_rule e =
      rw (get_or-set_other c i j (one_more (get_or c i [])) [] (λ z. e (sym z)), one_of, ne_eqb (suc i) (suc j) (λ z. e (omega (arith, z))))
      (t.each j b)

  either : Digits (get_or after j []) (one_of (suc i) m (suc j))
  either = on_bool (eqb i j) (λ y. same_rule (eqb-true i j y)) (λ y. other_rule (eqb-false i j y))

one_zero : (m : ℕ → ℕ) (j : ℕ) → m (suc j) ≡ one_of 0 m (suc j)
unfolding one_of
one_zero m j = rw (one_of, ne_eqb 0 (suc j) (λ z. absurd (omega (arith, z))))

tallies_one : (c : List (List ℕ)) (m : ℕ → ℕ) (n : ℕ) → Tallies c m → ((k : ℕ) → m k < 4294967295) → Tallies (counted Counts c n) (one_of n m)
unfolding counted one_of
tallies_one c m zero t l = record { eight = t.eight; each = λ j b. digits_as (one_zero m j) (t.each j b) }
tallies_one c m (suc i) t l = record { eight = length-set c i (one_more (get_or c i [])) ∙ t.eight; each = λ j b. either c m t l i j b }

tallies_as : (c : List (List ℕ)) (m n : ℕ → ℕ) → ((k : ℕ) → m k ≡ n k) → Tallies c m → Tallies c n
tallies_as c m n e t = record { eight = t.eight; each = λ j b. digits_as (e (suc j)) (t.each j b) }

one_most : (n : ℕ) (m : ℕ → ℕ) (k : ℕ) → one_of n m k ≤ m k + 1
unfolding one_of
one_most n m k = on_bool (eqb n k) (λ y. rw (one_of, y) (omega arith)) (λ y. rw (one_of, y) (omega arith))

one_counts : (e : ℕ × Tree) (l : Log) (m : ℕ → ℕ) (k : ℕ) → one_of e.0 m k + count_of k l ≡ m k + count_of k (e ∷ l)
unfolding one_of count_of
one_counts e l m k = on_bool (eqb e.0 k) (λ y. rw (one_of, count_of, y) (omega arith)) (λ y. rw (one_of, count_of, y))

-- a log's counts, on those so far
pub tallies_all : (c : List (List ℕ)) (m : ℕ → ℕ) (l : Log) → Tallies c m → ((k : ℕ) → m k + length l < 4294967295) → Tallies (counted_all Counts c l) (λ k. m k + count_of k l)
unfolding counted_all count_of
tallies_all c m [] t b = tallies_as c m (λ k. m k + 0) (λ k. omega arith) t
tallies_all c m (e ∷ l) t b =
    tallies_as (counted_all Counts (counted Counts c e.0) l) (λ k. one_of e.0 m k + count_of k l) (λ k. m k + count_of k (e ∷ l)) (one_counts e l m)
    (tallies_all (counted Counts c e.0) (one_of e.0 m) l (tallies_one c m e.0 t (λ k. let z = b k in omega (arith, z)))
    (λ k. let z = b k in let y = one_most e.0 m k in omega (arith, z, y)))

-- no counts
zeros : List (List ℕ)
zeros = replicate 8 (replicate {A = ℕ} 6 0)

no_tallies : Tallies zeros (λ k. 0)
unfolding zeros
no_tallies = record { eight = refl; each = at }
  where
    at : (j : ℕ) → j < 8 → Digits (get_or (replicate 8 (replicate {A = ℕ} 6 0)) j []) 0
    at zero b = digits 0 0 (omega arith)
    at (suc zero) b = digits 0 0 (omega arith)
    at (suc (suc zero)) b = digits 0 0 (omega arith)
    at (suc (suc (suc zero))) b = digits 0 0 (omega arith)
    at (suc (suc (suc (suc zero)))) b = digits 0 0 (omega arith)
    at (suc (suc (suc (suc (suc zero))))) b = digits 0 0 (omega arith)
    at (suc (suc (suc (suc (suc (suc zero)))))) b = digits 0 0 (omega arith)
    at (suc (suc (suc (suc (suc (suc (suc zero))))))) b = digits 0 0 (omega arith)
    at (suc (suc (suc (suc (suc (suc (suc (suc j)))))))) b = absurd (omega arith)

-- where a log was noted from no counts on, each rule's count is how many of its passes that rule ended
pub counts_exact : (row₀ row : List (List ℕ)) (l : Log) → counts_of row₀ ≡ replicate 8 (replicate {A = ℕ} 6 0) → Noted Counts row₀ row l → length l < 4294967295 → (k : ℕ) → 0 < k → k ≤ 8 → count_in row k ≡ count_of k l
unfolding count_in counts_of zeros
counts_exact row₀ row l z (as_counted h) few zero a b = absurd (omega arith)
counts_exact row₀ row l z (as_counted h) few (suc j) a b =
    let e : suc j - 1 ≡ j = omega arith in
    let t = tallies_all zeros (λ k. 0) l no_tallies (λ k. omega arith) in
    let g : drop (length row - count_records) row ≡ counted_all Counts (replicate 8 (replicate {A = ℕ} 6 0)) l = h ∙ ap (λ (c : List (List ℕ)). counted_all Counts c l) z in
    rw e
    (ap value_of (sym (get_or-drop (length row - count_records) row j []) ∙ ap (λ (c : List (List ℕ)). get_or c j []) g)
    ∙ digits_value (t.each j (omega arith))
    ∙ zero-add (count_of (suc j) l))
