-- Entries, one after another: what the walk over them needs. Assumes nothing.
use Prim.Native.Nat.{ℕ, zero, suc, ◌+◌, ◌-◌, ◌*◌, ◌<◌, ◌≤◌}
use mathlib.Core.Path.{◌≡◌, refl, sym, ◌∙◌, ap}
use mathlib.Core.List.{List, [], ◌∷◌}
use mathlib.Core.Bool.{Bool, true, false}
use mathlib.Core.Option.{Option, none, some}
use native.Mathlib.Omega.{arith}
use lib.Dec.{leb, eqb, eqb-suc-suc}
use lib.ListN.{length, take, drop, get_or, length-drop}
use lib.Seq.{get_or-drop, drop-drop}
use borrow.Author.Tests.{le-leb, lt-leb}
use Rattle.meaning.specs.Trace.{entries_of, before_them}
use Rattle.trace_bytes.specs.Bytes.{two_at, is_some, is_whole}

-- ---- the count

-- any count from the bytes' own on gives the same entries
pub entries_fuel : (k m : ℕ) (bs : List ℕ) → length bs ≤ k → length bs ≤ m → entries_of k bs ≡ entries_of m bs
unfolding entries_of
entries_fuel zero zero bs p q = refl
entries_fuel zero (suc m) [] p q = refl
entries_fuel zero (suc m) (b ∷ bs) p q = absurd (omega arith)
entries_fuel (suc k) zero [] p q = refl
entries_fuel (suc k) zero (b ∷ bs) p q = absurd (omega arith)
entries_fuel (suc k) (suc m) [] p q = refl
entries_fuel (suc k) (suc m) (zero ∷ bs) p q = refl
entries_fuel (suc k) (suc m) (suc n ∷ []) p q = refl
entries_fuel (suc k) (suc m) (suc n ∷ h ∷ []) p q = refl
entries_fuel (suc k) (suc m) (suc n ∷ h ∷ l ∷ bs) p q =
    let d : length (drop (h * 256 + l) bs) ≡ length bs - (h * 256 + l) = length-drop (h * 256 + l) bs in
    ap (λ (o : Option (List (List ℕ))). elim (leb (h * 256 + l) (length bs)) [ true ↦ before_them (suc n ∷ h ∷ l ∷ take (h * 256 + l) bs) o | false ↦ none ])
    (entries_fuel k m (drop (h * 256 + l) bs) (omega arith) (omega arith))

-- one entry, where its bytes are there
entries_step : (k b x y : ℕ) (bs : List ℕ) → x * 256 + y ≤ length bs
    → entries_of (suc k) (suc b ∷ x ∷ y ∷ bs) ≡ before_them (suc b ∷ x ∷ y ∷ take (x * 256 + y) bs) (entries_of k (drop (x * 256 + y) bs))
unfolding entries_of
entries_step k b x y bs h = rw (le-leb (x * 256 + y) (length bs) h, entries_of)

entries_short : (k b x y : ℕ) (bs : List ℕ) → length bs < x * 256 + y → entries_of (suc k) (suc b ∷ x ∷ y ∷ bs) ≡ none
unfolding entries_of
entries_short k b x y bs h = rw (lt-leb (x * 256 + y) (length bs) h, entries_of)

-- ---- whether there are entries

some_if : {A : Type 0} (b : Bool) (a : A) → is_some {A = A} (elim b [ true ↦ some a | false ↦ none ]) ≡ b
unfolding is_some
some_if true a = refl
some_if false a = refl

some_before : (e : List ℕ) (o : Option (List (List ℕ))) → is_some (before_them e o) ≡ is_some o
unfolding is_some before_them
some_before e none = refl
some_before e (some es) = refl

-- from the first byte on
none_left : (bs : List ℕ) → length bs ≡ 0 → is_whole bs ≡ false
unfolding is_whole
none_left [] e = refl
none_left (b ∷ bs) e = absurd (omega arith)

last_left : (bs : List ℕ) → 0 < length bs → get_or bs 0 0 ≡ 0 → is_whole bs ≡ eqb (length bs) 9
unfolding is_whole
last_left [] h e = absurd (omega arith)
last_left (zero ∷ bs) h e = some_if (eqb (length bs) 8) ((0 ∷ bs) ∷ []) ∙ sym (eqb-suc-suc (length bs) 8)
last_left (suc n ∷ bs) h e = absurd (omega arith)

cut_left : (bs : List ℕ) → 0 < length bs → (get_or bs 0 0 ≡ 0 → ⊥) → length bs < 3 → is_whole bs ≡ false
unfolding is_whole
cut_left [] h e l = absurd (omega arith)
cut_left (zero ∷ bs) h e l = absurd (e refl)
cut_left (suc n ∷ []) h e l = refl
cut_left (suc n ∷ x ∷ []) h e l = refl
cut_left (suc n ∷ x ∷ y ∷ bs) h e l = absurd (omega arith)

short_left : (bs : List ℕ) → 3 ≤ length bs → (get_or bs 0 0 ≡ 0 → ⊥) → length bs < 3 + two_at bs 1 → is_whole bs ≡ false
unfolding is_whole two_at
short_left [] h e l = absurd (omega arith)
short_left (zero ∷ bs) h e l = absurd (e refl)
short_left (suc n ∷ []) h e l = absurd (omega arith)
short_left (suc n ∷ x ∷ []) h e l = absurd (omega arith)
short_left (suc n ∷ x ∷ y ∷ bs) h e l = ap is_some (entries_short (suc (suc (length bs))) n x y bs (omega arith))

next_left : (bs : List ℕ) → 3 ≤ length bs → (get_or bs 0 0 ≡ 0 → ⊥) → 3 + two_at bs 1 ≤ length bs → is_whole bs ≡ is_whole (drop (3 + two_at bs 1) bs)
unfolding is_whole two_at
next_left [] h e l = absurd (omega arith)
next_left (zero ∷ bs) h e l = absurd (e refl)
next_left (suc n ∷ []) h e l = absurd (omega arith)
next_left (suc n ∷ x ∷ []) h e l = absurd (omega arith)
next_left (suc n ∷ x ∷ y ∷ bs) h e l =
    let z : 3 + (x * 256 + y) ≡ suc (suc (suc (x * 256 + y))) = omega arith in
    let d : length (drop (x * 256 + y) bs) ≡ length bs - (x * 256 + y) = length-drop (x * 256 + y) bs in
    ap is_some (entries_step (suc (suc (length bs))) n x y bs (omega arith))
    ∙ some_before (suc n ∷ x ∷ y ∷ take (x * 256 + y) bs) (entries_of (suc (suc (length bs))) (drop (x * 256 + y) bs))
    ∙ ap is_some (entries_fuel (suc (suc (length bs))) (length (drop (x * 256 + y) bs)) (drop (x * 256 + y) bs) (omega arith) (omega arith))
    ∙ ap (λ (k : ℕ). is_whole (drop k (suc n ∷ x ∷ y ∷ bs))) (sym z)

-- ---- the walk: at is a place that it has come to, from its first

pub record Walking (f : List ℕ) (from at : ℕ) : Type 0 where
  pub within : at ≤ length f
  pub so : is_whole (drop from f) ≡ is_whole (drop at f)

module _ (f : List ℕ) (from at : ℕ) (w : Walking f from at) where
  -- what stands at the place
  here : get_or (drop at f) 0 0 ≡ get_or f at 0
  here = get_or-drop at f 0 0 ∙ (let z : at + 0 ≡ at = omega arith in rw z)

  says : two_at (drop at f) 1 ≡ two_at f (at + 1)
  unfolding two_at
  says = let z : at + 2 ≡ at + 1 + 1 = omega arith in rw (get_or-drop at f 1 0, get_or-drop at f 2 0, z)

  pub walk_ends : length f ≤ at → false ≡ is_whole (drop from f)
  walk_ends h = sym (w.so ∙ none_left (drop at f) (omega (arith, length-drop at f)))

  pub walk_last : at < length f → get_or f at 0 ≡ 0 → eqb (length f - at) 9 ≡ is_whole (drop from f)
  walk_last h e = sym (w.so ∙ last_left (drop at f) (omega (arith, length-drop at f)) (here ∙ e) ∙ ap (λ (k : ℕ). eqb k 9) (length-drop at f))

  module _ (h : at < length f) (e : get_or f at 0 ≡ 0 → ⊥) where
    pub walk_cut : length f - at < 3 → false ≡ is_whole (drop from f)
    walk_cut l = sym (w.so ∙ cut_left (drop at f) (omega (arith, length-drop at f)) (λ z. e (sym here ∙ z)) (omega (arith, length-drop at f)))

    pub walk_short : (n : ℕ) → n ≡ two_at f (at + 1) → 3 ≤ length f - at → length f - at - 3 < n → false ≡ is_whole (drop from f)
    walk_short n i l k = sym (w.so ∙ short_left (drop at f) (omega (arith, length-drop at f)) (λ z. e (sym here ∙ z)) (omega (arith, length-drop at f, says)))

    pub walk_next : (n : ℕ) → n ≡ two_at f (at + 1) → 3 ≤ length f - at → n ≤ length f - at - 3 → Walking f from (at + (3 + n))
    walk_next n i l k = record {
      within = omega arith;
      so =
          let z : at + (3 + two_at (drop at f) 1) ≡ at + (3 + n) = omega (arith, says) in
          w.so
          ∙ next_left (drop at f) (omega (arith, length-drop at f)) (λ x. e (sym here ∙ x)) (omega (arith, length-drop at f, says))
          ∙ ap is_whole (drop-drop (3 + two_at (drop at f) 1) at f ∙ ap (λ (x : ℕ). drop x f) z);
    }
